-- What is found and fetched of a component, by its content.
use Rattle.std.specs.Prelude.{◌≡◌, ℕ, List, slice_get, Some, None}
use Rattle.tc_model.specs.Document.{Name, Document}
use Rattle.tc_model.specs.Keyed.{value_of}
use Rattle.tc_plain_model.specs.Writes.{Write, set}
use Rattle.tc_record.specs.Record.{IsRecordOf}
use Rattle.tc_compact.specs.Compacted.{IsCompactedIn, IsNumberedUnder}
use Rattle.tc_component.specs.declared.found.Found.{Found}
use Rattle.tc_component.specs.declared.found.Found.TheVariants.{Absent, Gone, At}

-- a key has no entry, or one that is gone, or one with a document, which stands at the place
abbrev pub MeansOf : List Write → ℕ → Found → Type 0
MeansOf entries key Absent = value_of key entries ≡ None
MeansOf entries key Gone = value_of key entries ≡ Some None
MeansOf entries key (At place) = (d : Document) × (value_of key entries ≡ Some (Some d)) × (slice_get entries place.at ≡ Some (set key d))

-- the record of this document under the names, in the form of a version, and of no other one
pub record IsRecordOfOne (version : ℕ) (names : List Name) (d : Document) (bytes : List ℕ) : Type 0 where
  pub record_is : IsCompactedIn version names d bytes
  pub one : (e : Document) (whole : List ℕ) → IsRecordOf e whole → IsNumberedUnder names e bytes → e ≡ d
