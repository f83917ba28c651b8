use Rattle.std.proofs.Common.{length}
use Rattle.std.specs.Prelude.{◌↔◌}
use Rattle.tc_recover.specs.Sorting.{logs_above, Follow}
use Rattle.tc_recover.proofs.sorting.logs_follow.Given as goal

abbrev pub invariant-loop-name : goal.invariant-loop-name
invariant-loop-name l = Follow l.last (logs_above l.last l.fn.names) ↔ Follow l.before (logs_above l.last l.rest)

abbrev pub decreases-loop-name : goal.decreases-loop-name
decreases-loop-name l = length l.rest
