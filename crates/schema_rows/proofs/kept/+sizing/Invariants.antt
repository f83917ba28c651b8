use Rattle.std.proofs.Common.{◌≡◌, ◌+◌, ◌*◌, ◌<◌, ◌^◌, length, map, drop}
use Rattle.std.specs.List.{AllByRecursion}
use Rattle.tc_model.specs.Tree.{items_of, members_of}
use Rattle.tc_model.specs.ShapeNames.{names_of_items, names_of_members}
use Rattle.tc_value.specs.ShapeMeaning.{shape_tree, shape_member}
use Rattle.tc_model.specs.TreeSize.{tree_size, trees_size, labelled_size}
use Rattle.schema_rows.proofs.kept.+sizing.Given as goal

abbrev pub decreases-size_of : goal.decreases-size_of
decreases-size_of l = 2 * tree_size (shape_tree l.shape.now)

abbrev pub decreases-size_of_items : goal.decreases-size_of_items
decreases-size_of_items l = 2 * trees_size (map shape_tree l.items.now) + 1

abbrev pub decreases-size_of_members : goal.decreases-size_of_members
decreases-size_of_members l = 2 * labelled_size (map shape_member l.members.now) + 1

-- what is left has the rest of the size, and where its names are short all are
abbrev pub invariant-size_of_items-loop-item : goal.invariant-size_of_items-loop-item
invariant-size_of_items-loop-item l = record {
  size : l.sum + trees_size (map shape_tree (drop l.item-index l.items)) ≡ trees_size (map shape_tree l.items);
  short : AllByRecursion (λ name. length name < 2 ^ 32) (names_of_items (items_of (map shape_tree (drop l.item-index l.items)))) → AllByRecursion (λ name. length name < 2 ^ 32) (names_of_items (items_of (map shape_tree l.items)));
}

abbrev pub invariant-size_of_members-loop-member : goal.invariant-size_of_members-loop-member
invariant-size_of_members-loop-member l = record {
  size : l.sum + labelled_size (map shape_member (drop l.member-index l.members)) ≡ labelled_size (map shape_member l.members);
  short : AllByRecursion (λ name. length name < 2 ^ 32) (names_of_members (members_of (map shape_member (drop l.member-index l.members)))) → AllByRecursion (λ name. length name < 2 ^ 32) (names_of_members (members_of (map shape_member l.members)));
}
