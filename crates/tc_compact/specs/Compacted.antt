-- What a document is under a dictionary: its members carry the numbers of their names.
use Rattle.std.specs.Prelude.{ℕ, List}
use Rattle.tc_model.specs.Tree.{relabel}
use Rattle.tc_model.specs.Document.{Name, Document}
use Rattle.tc_model.specs.KnownNames.{HasEach}
use Rattle.tc_model.specs.Dictionary.{number as name_number}
use Rattle.tc_record.specs.Preorder.{tokens_of}
use Rattle.tc_record.specs.Record.{labels, NumberedTree, packed_form, IsNumberedForm, IsNumberedRecordIn}

-- the document with each name replaced by its number
abbrev pub compacted : List Name → Document → NumberedTree
compacted names d = relabel (name_number names) (λ s. s) d

-- the bytes are the record of a form of a document whose names the dictionary has
pub record IsCompactedIn (form : ℕ) (names : List Name) (d : Document) (bytes : List ℕ) : Type 0 where
  pub known : HasEach names (labels (tokens_of d))
  pub numbered : IsNumberedRecordIn form (compacted names d) bytes

-- of the form that is written
abbrev pub IsCompactedRecordOf : List Name → Document → List ℕ → Type 0
IsCompactedRecordOf names d bytes = IsCompactedIn packed_form names d bytes

-- of one of the forms whose members carry numbers
abbrev pub IsNumberedUnder : List Name → Document → List ℕ → Type 0
IsNumberedUnder names d bytes = (form : ℕ) × (IsNumberedForm form × IsCompactedIn form names d bytes)
