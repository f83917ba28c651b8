use Rattle.std.proofs.Common.{◌≡◌, map, take}
use Rattle.std.specs.Arc.{arc_value}
use Rattle.tc_jobs.proofs.merging.shares_of.Given as goal

abbrev pub invariant-loop-component : goal.invariant-loop-component
invariant-loop-component g l = map arc_value l.shares.items ≡ map arc_value (take l.component-index l.components)
