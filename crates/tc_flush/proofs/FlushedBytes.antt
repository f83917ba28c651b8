-- A table that can be flushed, and the bytes once its entries are counted and pushed.
use Rattle.std.proofs.Common.{◌≡◌, ◌+◌, ◌++◌, List, [], ◌∷◌, bytes_eq, refl, ap, ◌∙◌, arith}
use Rattle.std.specs.List.{IsDistinct}
use Rattle.std.specs.Prelude.{All, option_to_list}
use Rattle.std.proofs.lemmas.List.Elements.{All-nil, All-cons, All-head, All-tail}
use Rattle.tc_model.specs.Document.{Name, ShapeTree, null_kind, boolean_kind, integer_kind, text_kind}
use Rattle.tc_model.specs.Keyed.{Ascends}
use Rattle.tc_model.specs.Kinds.{Kind, scalar, arrays, objects}
use Rattle.tc_schema_model.specs.Counted.{Counted, total_at}
use Rattle.tc_schema_model.specs.Occurrences.{Path}
use Rattle.tc_component.specs.Spelling.{file_bytes}
use Rattle.tc_component.specs.declared.head.Head.{Head}
use Rattle.tc_lsm_model.specs.Tables.{Table, writes_of, shapes_held, shapes_below}
use Rattle.tc_memory.specs.DocumentTables.{IsTableOf, kept_table}
use Rattle.tc_memory.specs.Table as memory
use Rattle.tc_flush.specs.Flushable.{CanCount, CanFlush, IsShortRecord, values_of}
use Rattle.tc_flush.specs.Flushing.{flush_bytes}
use Rattle.tc_flush.specs.Recounting.{FitsEach, all_removed, all_added, names_with, shapes_kept}
use Rattle.tc_component.specs.Rows.{IsShortWrite, rows_of}
use Rattle.tc_flush.proofs.RecountedLaws.{canonical-all_removed, shows-all_removed}
use Rattle.tc_flush.proofs.TableDocuments.{SetDocuments, names_with-held}

shapes-kept_table : (t : Table) → shapes_kept (kept_table t) ≡ shapes_below t
shapes-kept_table [] = refl
shapes-kept_table (e ∷ t) = ap (λ shapes. option_to_list e.1.below ++ shapes) (shapes-kept_table t)

-- the kept shapes are those of the table of documents
pub shapes_are : (t : Table) (kept : memory.Table) → IsTableOf t kept → shapes_kept kept ≡ shapes_below t
shapes_are t kept of = ap shapes_kept of.is ∙ shapes-kept_table t

pub total-all_removed : (names : List Name) → IsDistinct bytes_eq names → (shapes : List ShapeTree) (d : Counted) → FitsEach names shapes d → (path : Path) → total_at names (all_removed names shapes d) path + values_of shapes path ≡ total_at names d path
total-all_removed names distinct shapes d fits path =
    let one : (t : Kind) → _ = λ t. shows-all_removed names distinct shapes d fits path t in
    omega (arith, one (scalar null_kind), one (scalar boolean_kind), one (scalar integer_kind), one (scalar text_kind), one arrays, one objects)

-- once the kept shapes are off, the documents can be counted
pub can_count : (names : List Name) → IsDistinct bytes_eq names → (schema : Counted) (t : Table) → CanFlush names schema t → CanCount names (all_removed names (shapes_below t) schema) t
can_count names distinct schema t can = record {
  canonical = canonical-all_removed names distinct (shapes_below t) schema can.fits;
  known = can.known;
  counters = λ path. omega (arith, can.counters path, total-all_removed names distinct (shapes_below t) schema can.fits path);
  short = can.short;
}

-- what is then written
pub flush_is : SetDocuments → (head : Head) (names : List Name) (schema : Counted) (t : Table) (kept : memory.Table) → Ascends t → IsTableOf t kept → (there : Head) (newer : List Name) (left grown : Counted)
    → there ≡ head → newer ≡ names_with names (shapes_held t) → left ≡ all_removed names (shapes_kept kept) schema → grown ≡ all_added names (shapes_held t) left
    → file_bytes there (rows_of (names_with names (shapes_held t)) (writes_of t)) newer grown ≡ flush_bytes head names schema t
flush_is set head names schema t kept up of there newer left grown head_is newer_is left_is grown_is =
    rw (head_is, newer_is, grown_is, left_is, shapes_are t kept of)
    (ap (λ ns. file_bytes head (rows_of ns (writes_of t)) ns (all_added names (shapes_held t) (all_removed names (shapes_below t) schema))) (names_with-held set names t up))

-- the entries' records are as short as those of the table
pub short_writes : (t : Table) → All IsShortRecord t → All IsShortWrite (writes_of t)
short_writes [] all = All-nil IsShortWrite
short_writes (e ∷ t) all = All-cons IsShortWrite (e.0, e.1.held) (writes_of t) (All-head IsShortRecord e t all) (short_writes t (All-tail IsShortRecord e t all))
