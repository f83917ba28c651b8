use Rattle.std.proofs.Common.{◌≡◌, ◌<◌, ◌^◌, ◌+◌, ◌*◌, ◌++◌, length, map, drop}
use Rattle.std.specs.List.{AllByRecursion}
use Rattle.tc_model.specs.Tree.{items_of, members_of}
use Rattle.tc_value.specs.ShapeMeaning.{shape_tree, shape_member}
use Rattle.tc_model.specs.TreeSize.{tree_size, trees_size, labelled_size}
use Rattle.tc_model.specs.ShapeNames.{names_of_items, names_of_members}
use Rattle.tc_model.specs.Dictionary.{all_learned}
use Rattle.tc_infer.proofs.fresh.+fresh.Given as goal

abbrev pub decreases-learn_fresh : goal.decreases-learn_fresh
decreases-learn_fresh l = 2 * tree_size (shape_tree l.shape.now)

abbrev pub decreases-learn_fresh_of_items : goal.decreases-learn_fresh_of_items
decreases-learn_fresh_of_items l = 2 * trees_size (map shape_tree l.items.now) + 1

abbrev pub decreases-learn_fresh_of_members : goal.decreases-learn_fresh_of_members
decreases-learn_fresh_of_members l = 2 * labelled_size (map shape_member l.members.now) + 1

-- the names that are left, learned from here on, are all names learned
abbrev pub invariant-learn_fresh_of_items-loop-item : goal.invariant-learn_fresh_of_items-loop-item
invariant-learn_fresh_of_items-loop-item l = record {
  left : all_learned (l.known ++ l.fresh) (names_of_items (items_of (map shape_tree (drop l.item-index l.items)))) ≡ all_learned (l.known ++ l.initial.fresh) (names_of_items (items_of (map shape_tree l.items)));
  room : length l.fresh + length (names_of_items (items_of (map shape_tree (drop l.item-index l.items)))) < 2 ^ 32;
  short : AllByRecursion (λ name. length name < 2 ^ 32) (names_of_items (items_of (map shape_tree (drop l.item-index l.items))));
}

abbrev pub invariant-learn_fresh_of_members-loop-member : goal.invariant-learn_fresh_of_members-loop-member
invariant-learn_fresh_of_members-loop-member l = record {
  left : all_learned (l.known ++ l.fresh) (names_of_members (members_of (map shape_member (drop l.member-index l.members)))) ≡ all_learned (l.known ++ l.initial.fresh) (names_of_members (members_of (map shape_member l.members)));
  room : length l.fresh + length (names_of_members (members_of (map shape_member (drop l.member-index l.members)))) < 2 ^ 32;
  short : AllByRecursion (λ name. length name < 2 ^ 32) (names_of_members (members_of (map shape_member (drop l.member-index l.members))));
}
