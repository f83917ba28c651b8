use Rattle.std.proofs.Common.{◌≡◌, ◌++◌, map, take}
use Rattle.tc_value.specs.ShapeMeaning.{shape_tree}
use Rattle.tc_count.proofs.gathering.push_shapes.Given as goal

abbrev pub invariant-loop-shape : goal.invariant-loop-shape
invariant-loop-shape l = map shape_tree l.all.items ≡ map shape_tree l.initial.all.items ++ map shape_tree (take l.shape-index l.shapes)
