-- What a list of shapes holds has fewer values than the list.
use Rattle.std.specs.Prelude.{◌≤◌, List, [], ◌∷◌, map}
use Rattle.std.proofs.Common.{arith}
use denote.Param.Weighed.{most}
use Rattle.tc_model.specs.TreeSize.{tree_size, trees_size, labelled_size}
use Rattle.tc_value.specs.ShapeMeaning.{shape_tree, shape_member}
use Rattle.tc_value.specs.declared.shape_tree.Shape.{Shape}
use Rattle.tc_value.specs.declared.shape_tree.Shape.TheVariants.{Null, Bool, Int, Text, Array, Object}
use Rattle.tc_value.specs.declared.shape_tree.ShapeMember.{ShapeMember}
use Rattle.tc_value.specs.declared.shape_tree.ShapeItems.TheDeep.{deep-Shape, deep-ShapeMember}

pub shape_falls : (s : Shape) → deep-Shape s ≤ tree_size (shape_tree s)
shape_falls Null = omega arith
shape_falls Bool = omega arith
shape_falls Int = omega arith
shape_falls Text = omega arith
shape_falls (Array xs) = omega arith
shape_falls (Object ms) = omega arith

pub items_fall : (ss : List Shape) → most deep-Shape ss ≤ trees_size (map shape_tree ss)
items_fall [] = omega arith
items_fall (s ∷ ss) = omega (arith, shape_falls s, items_fall ss)

pub members_fall : (ms : List ShapeMember) → most deep-ShapeMember ms ≤ labelled_size (map shape_member ms)
members_fall [] = omega arith
members_fall (m ∷ ms) = omega (arith, shape_falls m.value, members_fall ms)
