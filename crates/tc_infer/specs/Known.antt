-- The records that can be counted without a name more.
use Rattle.std.specs.Prelude.{◌+◌, ◌<◌, ◌^◌, ℕ, List}
use Rattle.tc_model.specs.Document.{Name, Document, document_shape}
use Rattle.tc_model.specs.KnownNames.{HasEach}
use Rattle.tc_model.specs.ShapeNames.{names_within}
use Rattle.tc_compact.specs.Meant.{IsRecordUnder}
use Rattle.tc_schema_model.specs.Counted.{Counted, total_at}
use Rattle.tc_schema_model.specs.Occurrences.{Path}
use Rattle.tc_schema_model.specs.Values.{values_at}

-- The bytes are the record of a document under these names, which has no other names, and no counter of its values would
-- pass 64 bits.
pub record IsCountable (names : List Name) (d : Counted) (bytes : List ℕ) : Type 0 where
  pub document : Document
  pub is_record : IsRecordUnder names document bytes
  pub named : HasEach names (names_within (document_shape document))
  pub room : (path : Path) → total_at names d path + values_at (document_shape document) path < 2 ^ 64
