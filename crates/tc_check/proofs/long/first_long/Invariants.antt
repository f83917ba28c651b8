use Rattle.std.proofs.Common.{length}
use Rattle.tc_check.specs.Counting.{writes_in}
use Rattle.tc_check.proofs.LongRecords.{AreLeft}
use Rattle.tc_check.proofs.long.first_long.Given as goal

abbrev pub invariant-loop-log : goal.invariant-loop-log
invariant-loop-log l = AreLeft (writes_in l.fn.logs) (writes_in l.rest)

abbrev pub decreases-loop-log : goal.decreases-loop-log
decreases-loop-log l = length l.rest
