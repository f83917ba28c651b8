-- Which tables a test that takes little time finds to be flushable, by their records.
use Rattle.std.specs.Prelude.{◌<◌, ◌^◌, ◌+◌, ℕ, List, [], ◌∷◌, All, flat_map, length}
use Rattle.tc_model.specs.Document.{Name, Document}
use Rattle.tc_model.specs.ShapeNames.{names_within}
use Rattle.tc_schema_model.specs.Counted.{Counted, documents_of, total_at}
use Rattle.tc_schema_model.specs.Occurrences.{Path}
use Rattle.tc_record.specs.Record.{record_of, IsRecordOf}
use Rattle.tc_memory.specs.DocumentTables.{IsTableOf}
use Rattle.tc_memory.specs.Table as memory
use Rattle.tc_lsm_model.specs.Tables.{Table, shapes_held}
use Rattle.tc_flush.specs.Flushable.{values_of}
use Rattle.tc_flush.specs.Recounting.{FitsEach, all_removed, names_with, shapes_kept}

-- the records that a memory table keeps, in ascending key
abbrev pub held_record : memory.Held → List (List ℕ)
held_record memory.gone = []
held_record (memory.live bytes) = bytes ∷ []

abbrev pub records_kept : memory.Table → List (List ℕ)
records_kept kept = flat_map (λ e. held_record e.1.held) kept

abbrev pub IsShort : List ℕ → Type 0
IsShort bytes = length bytes < 2 ^ 30

-- the names of all members of the documents that a table holds, with repetitions
abbrev pub names_held : Table → List Name
names_held t = flat_map names_within (shapes_held t)

-- Records are short, and with their documents there are fewer than 2^32 documents and names, and fewer than 2^64 values at
-- each path.
pub record HasRoom (kept : memory.Table) (left : Counted) (known : List Name) : Type 0 where
  pub short : All IsShort (records_kept kept)
  pub documents : documents_of left + length (records_kept kept) < 2 ^ 32
  pub counters : (t : Table) → IsTableOf t kept → (path : Path) → total_at known left path + values_of (shapes_held t) path < 2 ^ 64
  pub names : (t : Table) → IsTableOf t kept → length (names_with known (shapes_held t)) < 2 ^ 32

-- the schema fits the kept shapes, and has room once they are taken off
pub record IsCounted (names : List Name) (schema : Counted) (kept : memory.Table) : Type 0 where
  pub fits : FitsEach names (shapes_kept kept) schema
  pub room : HasRoom kept (all_removed names (shapes_kept kept) schema) names

-- a document has a record that can be compacted
pub record IsShortDocument (d : Document) : Type 0 where
  pub recorded : IsRecordOf d (record_of d)
  pub short : length (record_of d) < 2 ^ 30
