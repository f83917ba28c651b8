-- Records without names that are known to spell documents.
use Rattle.std.specs.Prelude.{ℕ, List}
use Rattle.tc_model.specs.Document.{Name, Document}
use Rattle.tc_record.specs.Record.{NumberedTree, IsNumberedForm, IsNumberedRecordIn}
use Rattle.tc_compact.specs.Meant.{IsRecordUnder}

-- the bytes are a record without names, and spell a document under these
pub record IsKnownUnder (names : List Name) (bytes : List ℕ) : Type 0 where
  pub form : ℕ
  pub told : IsNumberedForm form
  pub tree : NumberedTree
  pub is_record : IsNumberedRecordIn form tree bytes
  pub document : Document
  pub under : IsRecordUnder names document bytes
