use Rattle.std.proofs.Common.{◌≡◌, ◌++◌, drop}
use Rattle.tc_bits.specs.Bits.{written}
use Rattle.tc_bits.proofs.Joined.{AreBelow}
use Rattle.tc_record.specs.Record.{spelling_of, column_in}
use Rattle.tc_compact.proofs.layout.put_bytes.Given as goal

abbrev pub invariant-loop-number : goal.invariant-loop-number
invariant-loop-number l =
    record {
      below : AreBelow l.writer.width (drop l.number-index l.numbers);
      written : l.out.items ++ written l.writer (drop l.number-index l.numbers) ≡ l.fn.out.items ++ column_in (spelling_of l.form) l.numbers;
    }
