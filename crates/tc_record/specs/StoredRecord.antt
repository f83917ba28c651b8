-- The records that tables and logs keep.
use Rattle.std.specs.Prelude.{ℕ, List}
use Rattle.tc_model.specs.Document.{Document}
use Rattle.tc_model.specs.Stored.{IsKeyless}
use Rattle.tc_record.specs.Record.{IsRecordOf}

-- the record with names of a document that has no member `id`
pub record IsStoredRecord (bytes : List ℕ) : Type 0 where
  pub document : Document
  pub is_record : IsRecordOf document bytes
  pub keyless : IsKeyless document
