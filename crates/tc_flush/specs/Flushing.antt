-- What a flush makes of a table, over the newest schema and names.
use Rattle.std.specs.Prelude.{◌≡◌, ◌<◌, ◌^◌, ◌+◌, ℕ, List}
use Rattle.tc_model.specs.Document.{Name}
use Rattle.tc_schema_model.specs.Counted.{Counted}
use Rattle.tc_plain_model.specs.Store.{names_after}
use Rattle.tc_component.specs.declared.head.Head.{Head}
use Rattle.tc_memory.specs.DocumentTables.{IsTableOf}
use Rattle.tc_memory.specs.Table as memory
use Rattle.tc_lsm_model.specs.Contents.{Content}
use Rattle.tc_lsm_model.specs.Lists.{live, names_of, schema_of, last_of, IsList}
use Rattle.tc_lsm_model.specs.Tables.{Table, writes_of, shapes_held, shapes_below, KeepsShapes}
use Rattle.tc_flush.specs.Recounting.{all_removed, all_added}
use Rattle.tc_component.specs.Rows.{part_of, component_bytes}

-- the shapes of what went are taken off, and those of the table's documents are counted
abbrev pub recounted : List Name → Counted → Table → Counted
recounted names schema t = all_added names (shapes_held t) (all_removed names (shapes_below t) schema)

-- the content, with the partition and the generations of a header
abbrev pub flush_of : Head → List Name → Counted → Table → Content
flush_of head names schema t = record {
  part = part_of head;
  from = head.from;
  to = head.to;
  entries = writes_of t;
  names = names_after names (writes_of t);
  schema = recounted names schema t;
}

abbrev pub flush_bytes : Head → List Name → Counted → Table → List ℕ
flush_bytes head names schema t = component_bytes (flush_of head names schema t)

-- Header, names and schema are those for a table behind a list, over so many generations, and the memory table keeps that
-- table with the shapes of what is live in the list.
pub record IsBehind (cs : List Content) (t : Table) (generations : ℕ) (head : Head) (names : List Name) (schema : Counted) (kept : memory.Table) : Type 0 where
  pub list : IsList (part_of head) cs
  pub of : IsTableOf t kept
  pub keeps : KeepsShapes (live cs) t
  pub newest_names : names ≡ names_of cs
  pub newest_schema : schema ≡ schema_of cs
  pub from : head.from ≡ last_of cs + 1
  pub to : head.to ≡ last_of cs + generations
  pub some : 0 < generations
  pub last : head.to < 2 ^ 63
