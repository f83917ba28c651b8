-- The tree that a shape is.
use Rattle.tc_model.specs.Tree.{leaf, array, object, items_of, members_of}
use Rattle.tc_model.specs.Document.{Name, ShapeTree, null_kind, boolean_kind, integer_kind, text_kind}
use Rattle.tc_value.specs.declared.shape_tree.Shape.{Shape}
use Rattle.tc_value.specs.declared.shape_tree.Shape.TheVariants.{Null, Bool, Int, Text, Array, Object}
use Rattle.tc_value.specs.declared.shape_tree.ShapeMember.{ShapeMember}

abbrev pub shape_tree : Shape → ShapeTree
shape_tree Null = leaf null_kind
shape_tree Bool = leaf boolean_kind
shape_tree Int = leaf integer_kind
shape_tree Text = leaf text_kind
shape_tree (Array xs) = array (items_of xs)
shape_tree (Object ms) = object (members_of ms)

-- a member's shape, by its name and its tree
abbrev pub shape_member : ShapeMember → Name × ShapeTree
shape_member m = (m.name, shape_tree m.value)
