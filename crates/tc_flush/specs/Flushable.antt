-- Which tables can be flushed over a schema and its dictionary.
use Rattle.std.specs.Prelude.{◌<◌, ◌^◌, ◌+◌, ℕ, List, All, IfSome, length}
use Rattle.tc_model.specs.Document.{Name, ShapeTree}
use Rattle.tc_schema_model.specs.Counted.{Counted, IsCanonical, documents_of, total_at}
use Rattle.tc_schema_model.specs.Occurrences.{Path}
use Rattle.tc_schema_model.specs.Values.{of_all_kinds}
use Rattle.tc_record.specs.Record.{record_of}
use Rattle.tc_lsm_model.specs.Tables.{Slot, Table, shapes_held, shapes_below, occurring}
use Rattle.tc_flush.specs.Recounting.{FitsEach, names_with}

-- how many values stand at a path of shapes, in all of them together
abbrev pub values_of : List ShapeTree → Path → ℕ
values_of shapes path = of_all_kinds (occurring shapes path)

-- records are compacted in 32 bits
abbrev pub IsShortRecord : ℕ × Slot → Type 0
IsShortRecord e = IfSome e.1.held (λ d. length (record_of d) < 2 ^ 30)

-- The schema fits the shapes that the table keeps. Once they are taken off and the table's documents are counted there are
-- fewer than 2^32 documents and names, and fewer than 2^64 values at each path.
pub record CanFlush (names : List Name) (schema : Counted) (t : Table) : Type 0 where
  pub fits : FitsEach names (shapes_below t) schema
  pub documents : documents_of schema + length (shapes_held t) < 2 ^ 32 + length (shapes_below t)
  pub known : length (names_with names (shapes_held t)) < 2 ^ 32
  pub counters : (path : Path) → total_at names schema path + values_of (shapes_held t) path < 2 ^ 64 + values_of (shapes_below t) path
  pub short : All IsShortRecord t

-- The same once the kept shapes are taken off: the table's documents can be counted and compacted.
pub record CanCount (names : List Name) (schema : Counted) (t : Table) : Type 0 where
  pub canonical : IsCanonical (length names) schema
  pub known : length (names_with names (shapes_held t)) < 2 ^ 32
  pub counters : (path : Path) → total_at names schema path + values_of (shapes_held t) path < 2 ^ 64
  pub short : All IsShortRecord t
