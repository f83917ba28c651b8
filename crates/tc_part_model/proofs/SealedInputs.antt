-- The sealed table of a part can be flushed.
use Rattle.std.proofs.Common.{◌≡◌, ◌+◌, ◌-◌, ◌<◌, ◌≤◌, ◌^◌, ◌++◌, List, [], length, length-append, refl, sym, ap, ◌∙◌, subst, arith, Some, None}
use Rattle.std.specs.Prelude.{All, IfSome}
use Rattle.std.proofs.lemmas.List.Elements.{All-nil, All-weaker}
use Rattle.tc_model.specs.Dictionary.{Extends}
use Rattle.tc_model.specs.Document.{Name}
use Rattle.tc_model.specs.Keyed.{values_in}
use Rattle.tc_schema_model.specs.Counted.{Counted, nothing}
use Rattle.tc_memory.specs.DocumentTables.{IsTableOf}
use Rattle.tc_memory.specs.Table as memory
use Rattle.tc_plain_model.specs.Store.{names_after}
use Rattle.tc_component.specs.declared.head.Head.{Head}
use Rattle.tc_component.specs.Rows.{IsShortWrite, part_of}
use Rattle.tc_lsm_model.specs.Contents.{Content, Partition}
use Rattle.tc_lsm_model.specs.Flushes.{IsFlush}
use Rattle.tc_lsm_model.specs.Lists.{GoesOn, IsList, last_of, live, names_of, schema_of}
use Rattle.tc_lsm_model.specs.Tables.{KeepsShapes, Table, over, shape_in, table_over, writes_of}
use Rattle.tc_lsm_model.proofs.FlushNames.{Extends-names_after}
use Rattle.tc_machine.specs.Logs.{all_writes}
use Rattle.tc_machine.specs.State.{Sealed, active_logs, sealed_logs, sealed_table}
use Rattle.tc_machine.specs.Writes.{AreFew, HasRoom, IsStorableWrite}
use Rattle.tc_machine.proofs.Holding.{all_writes-append, sealed_shapes}
use Rattle.tc_machine.proofs.Options.{All-front}
use Rattle.tc_flush.specs.Counting.{IsCounted, IsShortDocument}
use Rattle.tc_flush.specs.Flushable.{IsShortRecord}
use Rattle.tc_part_model.specs.Calls.{FlushesBehind, MakesFlush}
use Rattle.tc_part_model.specs.Meaning.{IsPart, KeepsSealed, KeepsTable}
use Rattle.tc_part_model.specs.Newest.{names_by, newest_index, schema_by}
use Rattle.tc_part_model.specs.PartState.{AreTold, Told}
use Rattle.tc_part_model.specs.PartView.{PartView}
use Rattle.tc_part_model.proofs.BegunParts.{sealed_found}
use Rattle.tc_part_model.proofs.NewestComponents.{names_are, schema_is}
use Rattle.tc_part_model.proofs.ShortDocuments.{live_short, table_short}

pub newest_names_are : (t : Told) (p : PartView) → IsPart t p → names_by (newest_index None t.components) ≡ names_of p.list
newest_names_are t p is = names_are None [] t.components p.list refl is.view.components

pub newest_schema_is : (t : Told) (p : PartView) → IsPart t p → schema_by (newest_index None t.components) ≡ schema_of p.list
newest_schema_is t p is = schema_is None nothing t.components p.list refl is.view.components

longer : (newer older : List Name) → Extends newer older → length older ≤ length newer
longer newer older (more, is) = omega (arith, ap (λ (ns : List Name). length ns) is, length-append older more)

-- what the test asks for, of any table that passes where it keeps the bounds
abbrev pub Counts : Type 0
Counts = (part : Partition) (cs : List Content) (t : Table) (kept : memory.Table) → IsList part cs → memory.IsTable kept → IsTableOf t kept → KeepsShapes (live cs) t
    → All IsShortDocument (values_in (live cs)) → All IsShortRecord t → length (over (live cs) t) < 2 ^ 32 → length (names_after (names_of cs) (writes_of t)) < 2 ^ 32
    → IsCounted (names_of cs) (schema_of cs) kept

module _ (t : Told) (p : PartView) (is : IsPart t p) (told : AreTold t.components) (kept : memory.Table) (some : t.sealed ≡ Some kept) where
  module _ (d : Sealed) (is_sealed : p.sealed ≡ Some d) (one : length d.logs ≡ 1) where
    keeps : KeepsTable (AreTold t.components) d.table kept
    keeps = (subst (λ o. KeepsSealed (AreTold t.components) o (Some kept)) is_sealed (subst (λ o. KeepsSealed (AreTold t.components) p.sealed o) some is.view.sealed)).1

    of_table : IsTableOf d.table kept
    of_table = record { is = keeps.shapes told; stored = keeps.stored }

    shapes : KeepsShapes (live p.list) d.table
    shapes = subst (λ o. KeepsShapes (live p.list) (sealed_table o)) is_sealed (sealed_shapes is.memory)

    next : t.generation ≡ last_of p.list + 2
    next = omega (arith, is.view.generation, ap (λ o. length (sealed_logs o)) is_sealed, one)

    is_behind : (head : Head) → t.generation < 2 ^ 63 → head ≡ record { number = t.part.number; count = t.part.count; from = t.generation - 1; to = t.generation - 1 } → FlushesBehind p head (names_of p.list) (schema_of p.list) kept
    is_behind head last same =
        let here : part_of head ≡ p.part = ap part_of same ∙ is.view.part in
        record {
          sealed = d;
          is_sealed = is_sealed;
          one_log = one;
          here = here;
          behind = record {
            list = subst (λ part. IsList part p.list) (sym here) is.memory.list;
            of = of_table;
            keeps = shapes;
            newest_names = refl;
            newest_schema = refl;
            from = omega (arith, ap (λ (h : Head). h.from) same, next);
            to = omega (arith, ap (λ (h : Head). h.to) same, next);
            some = omega arith;
            last = omega (arith, ap (λ (h : Head). h.to) same, next, last);
          };
        }

    short_writes : All IsShortWrite (all_writes d.logs)
    short_writes = All-weaker IsStorableWrite IsShortWrite (λ w storable. storable.short) (all_writes d.logs)
        (All-front IsStorableWrite (all_writes d.logs) (all_writes (active_logs (Some p.active)))
        (subst (λ ws. All IsStorableWrite ws) (all_writes-append d.logs (active_logs (Some p.active)))
        (subst (λ o. All IsStorableWrite (all_writes (sealed_logs o ++ active_logs (Some p.active)))) is_sealed is.memory.writes)))

    short_records : All IsShortRecord d.table
    short_records =
        subst (λ x. All IsShortRecord x) (sym (subst (λ o. IfSome o (λ e. e.table ≡ table_over (live p.list) (all_writes e.logs))) is_sealed is.memory.sealed))
        (table_short (shape_in (live p.list)) [] (all_writes d.logs) short_writes (All-nil IsShortRecord))

    few_names : length (names_after (names_of p.list) (writes_of d.table)) < 2 ^ 32
    few_names =
        let sealed_names = names_after (names_of p.list) (writes_of d.table) in
        let all_names : AreFew (names_after sealed_names (writes_of p.active.table ++ [])) = subst (λ o. AreFew (names_after (names_after (names_of p.list) (writes_of (sealed_table o))) (writes_of p.active.table ++ []))) is_sealed is.memory.few in
        omega (arith, all_names, longer (names_after sealed_names (writes_of p.active.table ++ [])) sealed_names (Extends-names_after sealed_names (writes_of p.active.table ++ [])))

    is_counted : Counts → memory.IsTable kept → IsCounted (names_of p.list) (schema_of p.list) kept
    is_counted counts lawful =
        counts p.part p.list d.table kept is.memory.list lawful of_table shapes (live_short t.components p.list is.view.components told) short_records
        (subst (λ o. HasRoom (over (live p.list) (sealed_table o))) is_sealed is.room) few_names

  pub sealed_behind : (head : Head) → t.generation < 2 ^ 63 → head ≡ record { number = t.part.number; count = t.part.count; from = t.generation - 1; to = t.generation - 1 } → FlushesBehind p head (names_of p.list) (schema_of p.list) kept
  sealed_behind = is_behind (sealed_found t p is kept some).0 (sealed_found t p is kept some).1 (sealed_found t p is kept some).2

  pub sealed_counted : Counts → memory.IsTable kept → IsCounted (names_of p.list) (schema_of p.list) kept
  sealed_counted = is_counted (sealed_found t p is kept some).0 (sealed_found t p is kept some).1 (sealed_found t p is kept some).2

pub makes_flush : (p : PartView) (head : Head) (names : List Name) (schema : Counted) (kept : memory.Table) (c : Content) (b : FlushesBehind p head names schema kept) → IsFlush (part_of head) p.list b.sealed.table 1 c → MakesFlush p c
makes_flush p head names schema kept c b is =
    subst (λ o. IfSome o (λ d. IsFlush p.part p.list d.table (length d.logs) c)) (sym b.is_sealed)
    (subst (λ n. IsFlush p.part p.list b.sealed.table n c) (sym b.one_log) (subst (λ part. IsFlush part p.list b.sealed.table 1 c) b.here is))

-- what a flush of the sealed table makes goes on behind the list
pub flush_goes_on : (t : Told) (p : PartView) (kept : memory.Table) (c : Content) → IsPart t p → t.sealed ≡ Some kept → MakesFlush p c → GoesOn p.part (last_of p.list) (live p.list) (names_of p.list) c
flush_goes_on t p kept c is some makes =
    let found = sealed_found t p is kept some in
    let flushed : IsFlush p.part p.list found.0.table (length found.0.logs) c = subst (λ o. IfSome o (λ d. IsFlush p.part p.list d.table (length d.logs) c)) found.1 makes in
    flushed.goes_on
