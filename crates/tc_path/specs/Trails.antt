-- What a walk over the tags and the numbers of a record has left, and what it counts of the other columns.
use Rattle.std.specs.Prelude.{◌≡◌, ◌<◌, ◌≤◌, ◌+◌, ◌*◌, ◌^◌, ℕ, List, ◌∷◌, length}
use Rattle.tc_model.specs.Document.{Scalar}
use Rattle.tc_record.specs.Preorder.{Token}
use Rattle.tc_record.specs.Record.{tags, labels}

-- the tags and the numbers that are left, and how many texts and fixed bytes were passed
pub record TrailState : Type 0 where
  pub tags : List ℕ
  pub slots : List ℕ
  pub texts : ℕ
  pub fixed : ℕ

-- there is room to count one more value
abbrev pub HasRoom : TrailState → Type 0
HasRoom t = (t.texts + length t.tags < 2 ^ 32) × (t.fixed + 8 * length t.tags + 8 ≤ 2 ^ 35)

-- what is left are the tags and the numbers of these tokens
pub record IsTrailOf (ts : List (Token ℕ Scalar)) (t : TrailState) : Type 0 where
  pub tags_are : t.tags ≡ tags ts
  pub slots_are : t.slots ≡ labels ts

-- a tag was taken from those of these tokens, and none of their numbers
pub record IsTaken (tag : ℕ) (ts : List (Token ℕ Scalar)) (t : TrailState) : Type 0 where
  pub tags_are : tag ∷ t.tags ≡ tags ts
  pub slots_are : t.slots ≡ labels ts

-- these tokens are left of it, behind so many texts and fixed bytes more
pub record Passes (ts : List (Token ℕ Scalar)) (texts fixed : ℕ) (old new : TrailState) : Type 0 where
  pub left : IsTrailOf ts new
  pub texts_are : new.texts ≡ old.texts + texts
  pub fixed_are : new.fixed ≡ old.fixed + fixed
