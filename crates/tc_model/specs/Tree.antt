-- A tree: leaves, arrays of trees, and objects whose members carry labels. A document has names as labels and
-- scalars as leaves, a shape has kinds as leaves, and a numbered tree has numbers as labels.
use Rattle.std.specs.Prelude.{ℕ, ◌+◌, max, List, [], ◌∷◌}

mutual
  pub data Tree (L S : Type 0) : Type 0 where
    leaf : S → Tree L S
    array : Items L S → Tree L S
    object : Members L S → Tree L S

  pub data Items (L S : Type 0) : Type 0 where
    no_items : Items L S
    item : Tree L S → Items L S → Items L S

  pub data Members (L S : Type 0) : Type 0 where
    no_members : Members L S
    member : L → Tree L S → Members L S → Members L S

-- how deep arrays and objects nest
abbrev mutual
  pub depth : {L S : Type 0} → Tree L S → ℕ
  depth (leaf s) = 0
  depth (array xs) = 1 + items_depth xs
  depth (object ms) = 1 + members_depth ms

  pub items_depth : {L S : Type 0} → Items L S → ℕ
  items_depth no_items = 0
  items_depth (item t ts) = max (depth t) (items_depth ts)

  pub members_depth : {L S : Type 0} → Members L S → ℕ
  members_depth no_members = 0
  members_depth (member l t ms) = max (depth t) (members_depth ms)

-- the same tree with other labels and other leaves
abbrev mutual
  pub relabel : {L M S T : Type 0} → (L → M) → (S → T) → Tree L S → Tree M T
  relabel f g (leaf s) = leaf (g s)
  relabel f g (array xs) = array (items_relabel f g xs)
  relabel f g (object ms) = object (members_relabel f g ms)

  pub items_relabel : {L M S T : Type 0} → (L → M) → (S → T) → Items L S → Items M T
  items_relabel f g no_items = no_items
  items_relabel f g (item t ts) = item (relabel f g t) (items_relabel f g ts)

  pub members_relabel : {L M S T : Type 0} → (L → M) → (S → T) → Members L S → Members M T
  members_relabel f g no_members = no_members
  members_relabel f g (member l t ms) = member (f l) (relabel f g t) (members_relabel f g ms)

-- the items of an array, from a list
abbrev pub items_of : {L S : Type 0} → List (Tree L S) → Items L S
items_of [] = no_items
items_of (t ∷ ts) = item t (items_of ts)

-- the members of an object, from a list of labels and values
abbrev pub members_of : {L S : Type 0} → List (L × Tree L S) → Members L S
members_of [] = no_members
members_of (m ∷ ms) = member m.0 m.1 (members_of ms)

-- the items of an array as a list
abbrev pub listed_items : {L S : Type 0} → Items L S → List (Tree L S)
listed_items no_items = []
listed_items (item t ts) = t ∷ listed_items ts

-- the members of an object as a list of labels and values
abbrev pub listed_members : {L S : Type 0} → Members L S → List (L × Tree L S)
listed_members no_members = []
listed_members (member l t ms) = (l, t) ∷ listed_members ms
