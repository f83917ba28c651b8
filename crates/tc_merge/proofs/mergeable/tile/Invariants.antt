use Rattle.std.proofs.Common.{◌↔◌, map, drop}
use Rattle.std.specs.Arc.{arc_value}
use Rattle.tc_merge.specs.Merging.{Tile}
use Rattle.tc_merge.proofs.mergeable.tile.Given as goal

abbrev pub invariant-loop-component : goal.invariant-loop-component
invariant-loop-component g l = Tile l.next l.to (map arc_value (drop l.component-index l.run)) ↔ Tile l.from l.to (map arc_value l.run)
