-- The table of documents that a memory table keeps as records.
use Rattle.std.specs.Prelude.{◌≡◌, ℕ, map, All, Option, Some, None, IfSome}
use Rattle.tc_model.specs.Document.{Document, IsDocument}
use Rattle.tc_model.specs.Keyed.{on_value}
use Rattle.tc_model.specs.Stored.{IsStorable}
use Rattle.tc_record.specs.Record.{record_of}
use Rattle.tc_lsm_model.specs.Tables as documents
use Rattle.tc_memory.specs.Table.{Held, gone, live, Kept, Table}

abbrev pub kept_held : Option Document → Held
kept_held None = gone
kept_held (Some d) = live (record_of d)

abbrev pub kept_slot : documents.Slot → Kept
kept_slot s = record { held = kept_held s.held; below = s.below }

-- each document as its record
abbrev pub kept_table : documents.Table → Table
kept_table t = map (on_value kept_slot) t

-- what a table may hold of a key
abbrev pub IsStoredAt : ℕ × documents.Slot → Type 0
IsStoredAt e = IfSome e.1.held (λ d. IsDocument d × IsStorable d)

-- documents that may be stored, each kept as its record
pub record IsTableOf (t : documents.Table) (kept : Table) : Type 0 where
  pub is : kept ≡ kept_table t
  pub stored : All IsStoredAt t

-- a table of documents that is kept so
pub record OfDocuments (kept : Table) : Type 0 where
  pub table : documents.Table
  pub of : IsTableOf table kept
