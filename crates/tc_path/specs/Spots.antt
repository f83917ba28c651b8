-- The value that hops by numbers reach in a tree, and where it stands in the columns of its record.
use Rattle.std.specs.Prelude.{◌≡◌, ◌++◌, ◌==◌, if◌then◌else◌, ℕ, List, [], ◌∷◌, drop, Option, None, Some}
use Rattle.tc_model.specs.Tree.{leaf, array, object, Members, no_members, member}
use Rattle.tc_model.specs.Document.{Scalar}
use Rattle.tc_record.specs.Preorder.{Token, tokens_of}
use Rattle.tc_record.specs.Record.{texts, fixed, NumberedTree, IsNumberedTree}
use Rattle.tc_record.specs.Walk.{Key}
use Rattle.tc_path.specs.Leads.{kinds_in, tag_of}
use Rattle.tc_path.specs.declared.leading.Spot.{Spot}

-- the value that hops reach from a tree, if they reach one
abbrev mutual
  pub value_by : List ℕ → NumberedTree → Option NumberedTree
  value_by [] t = Some t
  value_by (k ∷ ks) (leaf s) = None
  value_by (k ∷ ks) (array xs) = None
  value_by (k ∷ ks) (object ms) = value_among k ks ms

  -- through the first member of a number
  pub value_among : ℕ → List ℕ → Members ℕ Scalar → Option NumberedTree
  value_among k ks no_members = None
  value_among k ks (member m t ms) = if m == k then value_by ks t else value_among k ks ms

-- a lawful tree stands there among tokens: it has the tag, and its texts and its fixed bytes stand behind so many
pub record StandsAt (ts : List (Token Key Scalar)) (s : Spot) (t : NumberedTree) : Type 0 where
  pub lawful : IsNumberedTree t
  pub tagged : s.tag ≡ tag_of (kinds_in t)
  pub more_texts : List (List ℕ)
  pub texts_are : drop s.texts (texts ts) ≡ texts (tokens_of t) ++ more_texts
  pub more_fixed : List ℕ
  pub fixed_are : drop s.fixed (fixed ts) ≡ fixed (tokens_of t) ++ more_fixed
