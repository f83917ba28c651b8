-- How many values a tree has: the measure by which recursions over documents end.
use Rattle.std.specs.Prelude.{ℕ, ◌+◌, List}
use Rattle.tc_model.specs.Tree.{Tree, leaf, array, object, Items, no_items, item, Members, no_members, member, items_of, members_of}

abbrev mutual
  pub tree_size : {L S : Type 0} → Tree L S → ℕ
  tree_size (leaf s) = 1
  tree_size (array xs) = 1 + items_size xs
  tree_size (object ms) = 1 + members_size ms

  pub items_size : {L S : Type 0} → Items L S → ℕ
  items_size no_items = 0
  items_size (item t ts) = tree_size t + items_size ts

  pub members_size : {L S : Type 0} → Members L S → ℕ
  members_size no_members = 0
  members_size (member l t ms) = tree_size t + members_size ms

-- in a list of trees, and in a list of labelled trees
abbrev pub trees_size : {L S : Type 0} → List (Tree L S) → ℕ
trees_size xs = items_size (items_of xs)

abbrev pub labelled_size : {L S : Type 0} → List (L × Tree L S) → ℕ
labelled_size ms = members_size (members_of ms)
