use Rattle.std.proofs.Common.{◌≡◌, ◌++◌, length}
use Rattle.tc_bits.specs.Bits.{written}
use Rattle.tc_bits.proofs.Joined.{AreBelow}
use Rattle.tc_record.specs.Record.{spelling_of, column_in}
use Rattle.tc_compact.proofs.layout.put_column.Given as goal

abbrev pub invariant-loop-number : goal.invariant-loop-number
invariant-loop-number l =
    record {
      below : AreBelow l.writer.width l.left;
      written : l.out.items ++ written l.writer l.left ≡ l.fn.out.items ++ column_in (spelling_of l.form) l.fn.numbers;
    }

abbrev pub decreases-loop-number : goal.decreases-loop-number
decreases-loop-number l = length l.left
