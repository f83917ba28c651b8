use Rattle.std.proofs.Common.{rules}
use Rattle.tc_model.proofs.TreeLists.{array_shape, object_shape, ascending_shapes}
use Rattle.tc_value.proofs.document.+shaping.Goals as goal

pub Doc::shape-of-requires-in-Object : goal.Doc::shape-of-requires-in-Object
Doc::shape-of-requires-in-Object t c = search (rules, ascending_shapes)

pub Doc::shape-returns-in_ok-shapes_of_items-in-Array :
    goal.Doc::shape-returns-in_ok-shapes_of_items-in-Array
Doc::shape-returns-in_ok-shapes_of_items-in-Array t c = search (rules, array_shape)

pub Doc::shape-returns-in_ok-shapes_of_members-in-Object :
    goal.Doc::shape-returns-in_ok-shapes_of_members-in-Object
Doc::shape-returns-in_ok-shapes_of_members-in-Object t c = search (rules, object_shape)
