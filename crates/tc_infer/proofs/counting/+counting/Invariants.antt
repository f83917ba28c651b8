use Rattle.std.proofs.Common.{◌≡◌, ◌+◌, ◌*◌, length, map, drop}
use Rattle.tc_model.specs.Tree.{items_of, members_of}
use Rattle.tc_schema_model.specs.Counted.{IsBelowCanonical, AreFieldsCanonical}
use Rattle.tc_schema_model.specs.Added.{items_added, members_added, AreItemsNamed, AreMembersNamed}
use Rattle.tc_value.specs.ShapeMeaning.{shape_tree, shape_member}
use Rattle.tc_model.specs.TreeSize.{tree_size, trees_size, labelled_size}
use Rattle.tc_schema.specs.Places.{below_counted, fields_counted}
use Rattle.tc_infer.proofs.counting.+counting.Given as goal

abbrev pub decreases-count_shape : goal.decreases-count_shape
decreases-count_shape l = 3 * tree_size (shape_tree l.shape.now)

abbrev pub decreases-count_items : goal.decreases-count_items
decreases-count_items l = 3 * trees_size (map shape_tree l.items.now) + 2

abbrev pub decreases-count_item : goal.decreases-count_item
decreases-count_item l = 3 * tree_size (shape_tree l.item.now) + 1

abbrev pub decreases-count_members : goal.decreases-count_members
decreases-count_members l = 3 * labelled_size (map shape_member l.members.now) + 2

abbrev pub decreases-count_member : goal.decreases-count_member
decreases-count_member l = 3 * tree_size (shape_tree l.member.now.value) + 1

-- the items that are left, counted from here on, are all items counted
abbrev pub invariant-count_items-loop-item : goal.invariant-count_items-loop-item
invariant-count_items-loop-item l = record {
  left : items_added l.names (items_of (map shape_tree (drop l.item-index l.items))) (below_counted l.below) ≡ items_added l.names (items_of (map shape_tree l.items)) (below_counted l.initial.below);
  named : AreItemsNamed l.names (items_of (map shape_tree (drop l.item-index l.items)));
  canonical : IsBelowCanonical (length l.names) (below_counted l.below);
}

-- and the members
abbrev pub invariant-count_members-loop-member : goal.invariant-count_members-loop-member
invariant-count_members-loop-member l = record {
  left : members_added l.names (members_of (map shape_member (drop l.member-index l.members))) (fields_counted l.fields.items) ≡ members_added l.names (members_of (map shape_member l.members)) (fields_counted l.initial.fields.items);
  named : AreMembersNamed l.names (members_of (map shape_member (drop l.member-index l.members)));
  canonical : AreFieldsCanonical (length l.names) 0 (fields_counted l.fields.items);
}
