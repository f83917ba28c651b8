-- The records that components keep.
use Rattle.std.specs.Prelude.{◌≡◌, ◌<◌, ◌^◌, ℕ, List, length}
use Rattle.tc_lsm_model.specs.Contents.{IsNamedIn}
use Rattle.tc_model.specs.Document.{Name, Document, IsDocument}
use Rattle.tc_model.specs.Stored.{IsStorable}
use Rattle.tc_record.specs.Record.{record_of, IsNumberedForm}
use Rattle.tc_component.specs.Rows.{record_in}

-- The bytes are the record under these names, as a file of a version has it, of a document that can be stored: it has no member
-- `id`, and its record with names is short enough to be compacted.
pub record IsStoredIn (version : ℕ) (names : List Name) (bytes : List ℕ) : Type 0 where
  pub told : IsNumberedForm version
  pub document : Document
  pub is_document : IsDocument document
  pub storable : IsStorable document
  pub named : IsNamedIn names document
  pub short : length (record_of document) < 2 ^ 30
  pub spelled : bytes ≡ record_in version names document
