-- The kinds of values, and their numbers in the formats.
use Rattle.std.specs.Prelude.{ℕ, ◌==◌, Bool}
use Rattle.tc_model.specs.Tree.{leaf, array, object}
use Rattle.tc_model.specs.Document.{ScalarKind, null_kind, boolean_kind, integer_kind, text_kind, ShapeTree}

-- the kinds of values
pub data Kind : Type 0 where
  scalar : ScalarKind → Kind
  arrays : Kind
  objects : Kind

abbrev pub kind_of : ShapeTree → Kind
kind_of (leaf k) = scalar k
kind_of (array xs) = arrays
kind_of (object ms) = objects

-- the number of a kind in the formats, from 1 to 6
abbrev pub scalar_tag : ScalarKind → ℕ
scalar_tag null_kind = 1
scalar_tag boolean_kind = 2
scalar_tag integer_kind = 3
scalar_tag text_kind = 4

abbrev pub tag : Kind → ℕ
tag (scalar k) = scalar_tag k
tag arrays = 5
tag objects = 6

abbrev pub is_kind : Kind → Kind → Bool
is_kind k t = tag k == tag t
