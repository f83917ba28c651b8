-- How far a table is flushed, where some of its entries are left.
use Rattle.std.specs.Prelude.{◌≡◌, List, ◌++◌}
use Rattle.tc_model.specs.Document.{Name}
use Rattle.tc_plain_model.specs.Writes.{Write}
use Rattle.tc_schema_model.specs.Counted.{Counted}
use Rattle.tc_memory.specs.Table as memory
use Rattle.tc_memory.specs.DocumentTables.{IsTableOf}
use Rattle.tc_lsm_model.specs.Tables.{Table, writes_of, shapes_held}
use Rattle.tc_flush.specs.Flushable.{CanCount}
use Rattle.tc_flush.specs.Recounting.{names_with, all_added}

-- The entries before those that are left were counted and pushed. What is left, over what the schema and the names are
-- now, is the whole over what they were.
pub record IsUpTo (Pushed : List Write → Type 0) (t : Table) (before : List Name) (old : Counted) (left : memory.Table) (names : List Name) (schema : Counted) : Type 0 where
  pub done : Table
  pub rest : Table
  pub whole : t ≡ done ++ rest
  pub of : IsTableOf rest left
  pub can : CanCount names schema rest
  pub learned : names_with before (shapes_held t) ≡ names_with names (shapes_held rest)
  pub counted : all_added before (shapes_held t) old ≡ all_added names (shapes_held rest) schema
  pub pushed : Pushed (writes_of done)
