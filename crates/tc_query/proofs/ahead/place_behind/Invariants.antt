use Rattle.std.proofs.Common.{◌-◌, length, drop}
use Rattle.tc_list.specs.Contents.{marks}
use Rattle.tc_query.specs.Walking.{least_left, IsAhead}
use Rattle.tc_query.proofs.ahead.place_behind.Given as goal

abbrev pub invariant-loop-at : goal.invariant-loop-at
invariant-loop-at g l = IsAhead (least_left l.last) (marks l.component.index.slots) (drop l.at (marks l.component.index.slots))

abbrev pub decreases-loop-at : goal.decreases-loop-at
decreases-loop-at g l = length l.component.index.slots - l.at
