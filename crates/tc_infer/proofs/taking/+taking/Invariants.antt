use Rattle.std.proofs.Common.{◌≡◌, ◌+◌, ◌*◌, length, map, drop}
use Rattle.tc_model.specs.Tree.{items_of, members_of}
use Rattle.tc_schema_model.specs.Counted.{IsBelowCanonical, AreFieldsCanonical}
use Rattle.tc_schema_model.specs.Added.{items_removed, members_removed}
use Rattle.tc_schema_model.specs.Fits.{are_items_fit, are_members_fit}
use Rattle.tc_value.specs.ShapeMeaning.{shape_tree, shape_member}
use Rattle.tc_model.specs.TreeSize.{tree_size, trees_size, labelled_size}
use Rattle.tc_schema.specs.Places.{below_counted, fields_counted}
use Rattle.tc_infer.proofs.taking.+taking.Given as goal

abbrev pub decreases-take_shape : goal.decreases-take_shape
decreases-take_shape l = 3 * tree_size (shape_tree l.shape.now)

abbrev pub decreases-take_items : goal.decreases-take_items
decreases-take_items l = 3 * trees_size (map shape_tree l.items.now) + 2

abbrev pub decreases-take_item : goal.decreases-take_item
decreases-take_item l = 3 * tree_size (shape_tree l.item.now) + 1

abbrev pub decreases-take_members : goal.decreases-take_members
decreases-take_members l = 3 * labelled_size (map shape_member l.members.now) + 2

abbrev pub decreases-take_member : goal.decreases-take_member
decreases-take_member l = 3 * tree_size (shape_tree l.member.now.value) + 1

-- the items that are left, taken off from here on, are all items taken off, and fit where all do
abbrev pub invariant-take_items-loop-item : goal.invariant-take_items-loop-item
invariant-take_items-loop-item l = record {
  left : items_removed l.names (items_of (map shape_tree (drop l.item-index l.items))) (below_counted l.below) ≡ items_removed l.names (items_of (map shape_tree l.items)) (below_counted l.initial.below);
  fits : are_items_fit l.names (items_of (map shape_tree (drop l.item-index l.items))) (below_counted l.below) ≡ are_items_fit l.names (items_of (map shape_tree l.items)) (below_counted l.initial.below);
  canonical : IsBelowCanonical (length l.names) (below_counted l.below);
}

-- and the members
abbrev pub invariant-take_members-loop-member : goal.invariant-take_members-loop-member
invariant-take_members-loop-member l = record {
  left : members_removed l.names (members_of (map shape_member (drop l.member-index l.members))) (fields_counted l.fields.items) ≡ members_removed l.names (members_of (map shape_member l.members)) (fields_counted l.initial.fields.items);
  fits : are_members_fit l.names (members_of (map shape_member (drop l.member-index l.members))) (fields_counted l.fields.items) ≡ are_members_fit l.names (members_of (map shape_member l.members)) (fields_counted l.initial.fields.items);
  canonical : AreFieldsCanonical (length l.names) 0 (fields_counted l.fields.items);
}
