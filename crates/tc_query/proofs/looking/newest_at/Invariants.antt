use Rattle.std.proofs.Common.{length}
use Rattle.std.specs.Arc.{arc_value}
use Rattle.tc_list.proofs.Walks.{Walked}
use Rattle.tc_query.proofs.looking.newest_at.Given as goal

abbrev pub invariant-loop-newest : goal.invariant-loop-newest
invariant-loop-newest g l = Walked arc_value l.initial.rest l.rest l.key

abbrev pub decreases-loop-newest : goal.decreases-loop-newest
decreases-loop-newest g l = length l.rest
