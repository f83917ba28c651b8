use Rattle.std.proofs.Common.{length}
use Rattle.tc_check.specs.Counting.{writes_in}
use Rattle.tc_check.proofs.DocumentCounts.{EndsAs}
use Rattle.tc_check.proofs.counting.count_logs.Given as goal

abbrev pub invariant-loop-log : goal.invariant-loop-log
invariant-loop-log g l = EndsAs l.list (writes_in l.fn.logs) (writes_in l.rest) l.fn.counting l.counting

abbrev pub decreases-loop-log : goal.decreases-loop-log
decreases-loop-log g l = length l.rest
