use Rattle.std.proofs.Common.{◌≡◌, ◌++◌, drop}
use Rattle.tc_bits.specs.Bits.{written}
use Rattle.tc_bits.proofs.Joined.{AreBelow}
use Rattle.tc_record.specs.Record.{spelling_of, column_in}
use Rattle.tc_compact.proofs.layout.put_slots.Given as goal

abbrev pub invariant-loop-slot : goal.invariant-loop-slot
invariant-loop-slot l =
    record {
      below : AreBelow l.writer.width (drop l.slot-index l.slots);
      written : l.out.items ++ written l.writer (drop l.slot-index l.slots) ≡ l.fn.out.items ++ column_in (spelling_of l.form) l.slots;
    }
