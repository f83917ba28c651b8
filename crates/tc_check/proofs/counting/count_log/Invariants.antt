use Rattle.std.proofs.Common.{length}
use Rattle.tc_check.proofs.DocumentCounts.{EndsAs}
use Rattle.tc_check.proofs.counting.count_log.Given as goal

abbrev pub invariant-loop-write : goal.invariant-loop-write
invariant-loop-write g l = EndsAs l.list l.fn.writes l.rest l.fn.counting l.counting

abbrev pub decreases-loop-write : goal.decreases-loop-write
decreases-loop-write g l = length l.rest
