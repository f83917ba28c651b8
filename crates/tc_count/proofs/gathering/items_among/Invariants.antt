use Rattle.std.proofs.Common.{◌≡◌, ◌++◌, map, drop}
use Rattle.tc_value.specs.ShapeMeaning.{shape_tree}
use Rattle.tc_count.specs.Gathered.{items_among}
use Rattle.tc_count.proofs.gathering.items_among.Given as goal

abbrev pub invariant-loop-value : goal.invariant-loop-value
invariant-loop-value l = map shape_tree l.items.items ++ items_among (map shape_tree (drop l.value-index l.values)) ≡ items_among (map shape_tree l.values)
