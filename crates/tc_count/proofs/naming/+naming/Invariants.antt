use Rattle.std.proofs.Common.{◌≡◌, ◌+◌, ◌*◌, ◌++◌, map, drop}
use Rattle.tc_model.specs.Tree.{items_of, members_of}
use Rattle.tc_model.specs.ShapeNames.{names_of_items, names_of_members}
use Rattle.tc_model.specs.TreeSize.{tree_size, trees_size, labelled_size}
use Rattle.tc_value.specs.ShapeMeaning.{shape_tree, shape_member}
use Rattle.tc_count.proofs.naming.+naming.Given as goal

abbrev pub decreases-push_names : goal.decreases-push_names
decreases-push_names l = 2 * tree_size (shape_tree l.shape.now)

abbrev pub decreases-push_names_of_items : goal.decreases-push_names_of_items
decreases-push_names_of_items l = 2 * trees_size (map shape_tree l.items.now) + 1

abbrev pub decreases-push_names_of_members : goal.decreases-push_names_of_members
decreases-push_names_of_members l = 2 * labelled_size (map shape_member l.members.now) + 1

-- the names so far and those that are left are all
abbrev pub invariant-push_names_of_items-loop-item : goal.invariant-push_names_of_items-loop-item
invariant-push_names_of_items-loop-item l =
    l.names.items ++ names_of_items (items_of (map shape_tree (drop l.item-index l.items))) ≡ l.initial.names.items ++ names_of_items (items_of (map shape_tree l.items))

abbrev pub invariant-push_names_of_members-loop-member : goal.invariant-push_names_of_members-loop-member
invariant-push_names_of_members-loop-member l =
    l.names.items ++ names_of_members (members_of (map shape_member (drop l.member-index l.members))) ≡ l.initial.names.items ++ names_of_members (members_of (map shape_member l.members))
