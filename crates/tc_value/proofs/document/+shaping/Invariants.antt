use Rattle.std.proofs.Common.{◌≡◌, map, take}
use Rattle.tc_value.specs.Meaning.{tree_of, member_of}
use Rattle.tc_value.specs.ShapeMeaning.{shape_tree, shape_member}
use Rattle.tc_model.specs.Document.{member_shape, document_shape}
use Rattle.tc_value.proofs.document.+shaping.Given as goal

abbrev pub invariant-shaping::shapes_of_items-loop-item : goal.invariant-shaping::shapes_of_items-loop-item
invariant-shaping::shapes_of_items-loop-item l = map shape_tree l.shapes.items ≡ map document_shape (map tree_of (take l.item-index l.items))

abbrev pub invariant-shaping::shapes_of_members-loop-member :
    goal.invariant-shaping::shapes_of_members-loop-member
invariant-shaping::shapes_of_members-loop-member l = map shape_member l.shapes.items ≡ map member_shape (map member_of (take l.member-index l.members))
