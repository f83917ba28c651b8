-- What a record whose members carry numbers means under a dictionary: each number stands for a name.
use Rattle.std.specs.Prelude.{◌≡◌, ◌<◌, ◌^◌, ◌⊎◌, ◌&&◌, ℕ, Bool, true, List, [], ◌∷◌, map, Option, Some, option_map, slice_get, unwrap_or, length}
use Rattle.std.specs.List.{AllByRecursion}
use Rattle.tc_model.specs.Tree.{Tree, leaf, array, object, Items, no_items, item, Members, no_members, member, relabel, listed_members}
use Rattle.tc_model.specs.Document.{Name, Document, Scalar, ShapeTree, IsAscending, document_shape}
use Rattle.tc_record.specs.Preorder.{Piece, Token, token}
use Rattle.tc_record.specs.Record.{labels, NumberedTree, record_of, IsRecordOf}
use Rattle.tc_record.specs.Borrowed.{Record, IsBelow, numbered_tokens}
use Rattle.tc_record.specs.Walk.{Key, name, number, is_above}
use Rattle.tc_record.specs.Building.{Levels, value_read, levels_of, document_read}
use Rattle.tc_compact.specs.Compacted.{IsNumberedUnder}

-- the name of a number, or none of its bytes
abbrev pub name_at : List Name → ℕ → Name
name_at names k = unwrap_or (slice_get names k) []

-- the tree with the name of each number in its place
abbrev pub expanded : List Name → NumberedTree → Document
expanded names n = relabel (name_at names) (λ s. s) n

-- a label with the name that it means
abbrev pub key_meant : List Name → Key → Key
key_meant names (name n) = name n
key_meant names (number k) = name (name_at names k)

abbrev pub tokens_meant : List Name → List (Token Key Scalar) → List (Token Key Scalar)
tokens_meant names ts = map (λ t. token (option_map (key_meant names) t.label) t.piece) ts

-- what each array and object that is open goes on to hold, by the names that are meant
abbrev pub levels_meant : List Name → List (Token Key Scalar) → Levels
levels_meant names ts = levels_of (tokens_meant names ts)

-- the shape of the value that a piece is or opens, and the levels behind that value
abbrev pub shape_read : Piece Scalar → Levels → Option ShapeTree × Levels
shape_read p levels = let read = value_read p levels in (option_map document_shape read.0, read.1)

-- the shape of the value that the first token is or opens
abbrev pub shape_meant : List Name → List (Token Key Scalar) → Option ShapeTree
shape_meant names ts = option_map document_shape (document_read (tokens_meant names ts))

-- whether names ascend strictly, behind another where there is one
abbrev pub ascend_behind : Option Name → List Name → Bool
ascend_behind last [] = true
ascend_behind last (n ∷ ns) = is_above last n && ascend_behind (Some n) ns

-- the names of each object ascend strictly
abbrev mutual
  pub IsOrdered : {S : Type 0} → Tree Name S → Type 0
  IsOrdered (leaf s) = Unit {0}
  IsOrdered (array xs) = AreItemsOrdered xs
  IsOrdered (object ms) = IsAscending (listed_members ms) × AreMembersOrdered ms

  pub AreItemsOrdered : {S : Type 0} → Items Name S → Type 0
  AreItemsOrdered no_items = Unit {0}
  AreItemsOrdered (item t ts) = IsOrdered t × AreItemsOrdered ts

  pub AreMembersOrdered : {S : Type 0} → Members Name S → Type 0
  AreMembersOrdered no_members = Unit {0}
  AreMembersOrdered (member n t ms) = IsOrdered t × AreMembersOrdered ms

-- the bytes are a record of the document, with its names, or with numbers under the dictionary
abbrev pub IsRecordUnder : List Name → Document → List ℕ → Type 0
IsRecordUnder names d bytes = IsRecordOf d bytes ⊎ ((whole : List ℕ) × IsRecordOf d whole × IsNumberedUnder names d bytes)

-- each number of a record has a name, and with these names it is shorter than 2^32 bytes
pub record HasRoom (names : List Name) (r : Record) : Type 0 where
  pub known : AllByRecursion (IsBelow (length names)) (labels r.tokens)
  pub short : (n : NumberedTree) → r.tokens ≡ numbered_tokens n → length (record_of (expanded names n)) < 2 ^ 32
