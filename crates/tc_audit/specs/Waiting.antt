-- Documents that wait to be counted, by their shapes.
use Rattle.std.specs.Prelude.{◌≡◌, ◌==◌, ℕ, false, if◌then◌else◌, List, [], ◌∷◌, length, slice_get, Option, None, Some, option_map, option_to_list}
use Rattle.std.specs.List.{AllByRecursion}
use Rattle.tc_model.specs.Document.{Name, Document, document_shape}
use Rattle.tc_model.specs.Kinds.{Kind}
use Rattle.tc_record.specs.Borrowed.{Record}
use Rattle.tc_schema_model.specs.Added.{added}
use Rattle.tc_schema_model.specs.Counted.{Counted, nothing, shows, IsCanonical}
use Rattle.tc_schema_model.specs.Occurrences.{Path, count}
use Rattle.tc_audit.specs.declared.counting.Recount.{Recount}
use Rattle.tc_audit.specs.declared.shapes.KnownShape.{KnownShape}
use Rattle.tc_audit.specs.Stored.{IsStoredIn}
use Rattle.tc_audit.specs.Times.{with_times}
use Rattle.tc_audit.specs.Told.{document_in}

-- what a document counts by itself
abbrev pub once : List Name → Option Document → Counted
once names None = nothing
once names (Some d) = added names (document_shape d) nothing

abbrev pub once_in : List Name → List ℕ → Counted
once_in names bytes = once names (document_in names bytes)

-- what is counted, with the documents of a shape that wait
abbrev pub with_one : List Name → KnownShape → Counted → Counted
with_one names s d = if s.waiting == 0 then d else with_times s.waiting (once_in names s.bytes) d

-- with those of all shapes
abbrev pub with_waiting : List Name → List KnownShape → Counted → Counted
with_waiting names [] d = d
with_waiting names (s ∷ ss) d = with_waiting names ss (with_one names s d)

abbrev pub all_counted : Recount → Counted
all_counted r = with_waiting r.names r.shapes.known.items r.schema

-- a shape is known by the stored record of a document, which is counted as that document alone is
pub record IsKnown (form : ℕ) (names : List Name) (s : KnownShape) : Type 0 where
  pub stored : IsStoredIn form names s.bytes
  pub canonical : IsCanonical (length names) (once_in names s.bytes)
  pub counts : (path : Path) (t : Kind) → shows names (once_in names s.bytes) path t ≡ count (option_to_list (document_in names s.bytes)) path t

abbrev pub AreKnown : ℕ → List Name → List KnownShape → Type 0
AreKnown form names ss = AllByRecursion (IsKnown form names) ss

abbrev pub NoneWaits : List KnownShape → Type 0
NoneWaits ss = AllByRecursion (λ (s : KnownShape). s.waiting ≡ 0) ss

-- What is counted is in the one form, all shapes are known, and no document waits where none may.
pub record IsSound (r : Recount) : Type 0 where
  pub canonical : IsCanonical (length r.names) r.schema
  pub known : AreKnown r.shapes.form r.names r.shapes.known.items
  pub settled : r.waits ≡ false → NoneWaits r.shapes.known.items

-- a record is a stored one, and its document has the shape that is known at a position
pub record IsOfShape (names : List Name) (of : Record) (ss : List KnownShape) (at : ℕ) : Type 0 where
  pub shape : KnownShape
  pub here : slice_get ss at ≡ Some shape
  pub stored : IsStoredIn of.form names of.bytes
  pub same : option_map document_shape (document_in names of.bytes) ≡ option_map document_shape (document_in names shape.bytes)
