use Rattle.std.proofs.Common.{◌≡◌, map, take}
use Rattle.tc_value.specs.ShapeMeaning.{shape_tree, shape_member}
use Rattle.tc_value.proofs.shape_tree.+copy_shape.Given as goal

abbrev pub invariant-copying::copy_shape_items-loop-item : goal.invariant-copying::copy_shape_items-loop-item
invariant-copying::copy_shape_items-loop-item l = map shape_tree l.copied.items ≡ map shape_tree (take l.item-index l.items)

abbrev pub invariant-copying::copy_shape_members-loop-member :
    goal.invariant-copying::copy_shape_members-loop-member
invariant-copying::copy_shape_members-loop-member l = map shape_member l.copied.items ≡ map shape_member (take l.member-index l.members)
