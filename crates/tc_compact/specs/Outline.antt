-- The tags and the slots of a record with numbers, and what they tell: whether the names of each object ascend.
use Rattle.std.specs.Prelude.{◌≡◌, ◌&&◌, ℕ, Bool, true, List, ◌∷◌, ◌++◌, Option, None, Some}
use Rattle.tc_model.specs.Document.{Name, Scalar}
use Rattle.tc_model.specs.Tree.{leaf, array, object, Items, no_items, item, Members, no_members, member}
use Rattle.tc_record.specs.Preorder.{Piece, scalar, array_opened, object_opened, closed, Token, token, items_preorder, members_preorder}
use Rattle.tc_record.specs.Record.{tags, labels, NumberedTree}
use Rattle.tc_record.specs.Walk.{is_above}
use Rattle.tc_compact.specs.Meant.{name_at}

-- the tags and the numbers of members that are left
pub record OutlineState : Type 0 where
  pub tags : List ℕ
  pub slots : List ℕ

-- they are the tags of these tokens, and the numbers of their labels
pub record IsOutlineOf (ts : List (Token ℕ Scalar)) (o : OutlineState) : Type 0 where
  pub tags_are : o.tags ≡ tags ts
  pub slots_are : o.slots ≡ labels ts

-- a tree is its first piece, and the tokens behind it
abbrev pub first_piece : NumberedTree → Piece Scalar
first_piece (leaf s) = scalar s
first_piece (array xs) = array_opened
first_piece (object ms) = object_opened

abbrev pub behind_first : NumberedTree → List (Token ℕ Scalar) → List (Token ℕ Scalar)
behind_first (leaf s) more = more
behind_first (array xs) more = items_preorder xs ++ token None closed ∷ more
behind_first (object ms) more = members_preorder ms ++ token None closed ∷ more

-- whether the names of each object ascend, where numbers mean names
abbrev mutual
  pub is_ordered : List Name → NumberedTree → Bool
  is_ordered names (leaf s) = true
  is_ordered names (array xs) = are_items_ordered names xs
  is_ordered names (object ms) = are_members_ordered names None ms

  pub are_items_ordered : List Name → Items ℕ Scalar → Bool
  are_items_ordered names no_items = true
  are_items_ordered names (item t ts) = is_ordered names t && are_items_ordered names ts

  -- behind another name, where there is one
  pub are_members_ordered : List Name → Option Name → Members ℕ Scalar → Bool
  are_members_ordered names last no_members = true
  are_members_ordered names last (member k t ms) = is_above last (name_at names k) && (is_ordered names t && are_members_ordered names (Some (name_at names k)) ms)

-- what is left of the items of an array once some of them were passed, whose names ascend
pub record IsBehindOrdered (names : List Name) (xs : Items ℕ Scalar) (more : List (Token ℕ Scalar)) (o : OutlineState) : Type 0 where
  pub left : Items ℕ Scalar
  pub passed : are_items_ordered names left ≡ are_items_ordered names xs
  pub stands : IsOutlineOf (items_preorder left ++ token None closed ∷ more) o
