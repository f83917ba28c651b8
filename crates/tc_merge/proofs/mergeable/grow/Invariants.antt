use Rattle.std.proofs.Common.{◌↔◌, map, drop}
use Rattle.std.specs.Arc.{arc_value}
use Rattle.tc_merge.specs.Merging.{GrowNames}
use Rattle.tc_merge.proofs.mergeable.grow.Given as goal

abbrev pub invariant-loop-component : goal.invariant-loop-component
invariant-loop-component g l = GrowNames l.before (map arc_value (drop l.component-index l.run)) ↔ GrowNames l.older (map arc_value l.run)
