-- Staging: the memory table, the staged writes and the taken names go on together, and the files are as they were.
use Rattle.std.proofs.Common.{◌≡◌, ◌<◌, ◌^◌, ◌++◌, ℕ, List, [], ◌∷◌, length, refl, sym, ap, ◌∙◌, subst, arith, Option, Some, None, append_assoc, bytes_eq, false}
use Rattle.std.specs.Prelude.{All}
use Rattle.std.specs.List.{IsDistinct}
use Rattle.std.proofs.lemmas.List.Elements.{All-nil, All-cons, All-append}
use Rattle.std.proofs.lemmas.List.Sums.{fold-append}
use Rattle.tc_model.specs.Document.{Name, ShapeTree}
use Rattle.tc_model.specs.KnownNames.{HasEach}
use Rattle.tc_plain_model.specs.Store.{names_after}
use Rattle.tc_plain_model.specs.Writes.{Write, after_writes}
use Rattle.tc_lsm_model.specs.Lists.{names_of}
use Rattle.tc_lsm_model.specs.Tables as documents
use Rattle.tc_lsm_model.proofs.FlushNames.{distinct-names_after}
use Rattle.tc_lsm_model.proofs.ListNewest.{newest_of_list}
use Rattle.tc_memory.specs.DocumentTables.{IsStoredAt, IsTableOf, kept_table}
use Rattle.tc_memory.proofs.DocumentLaws.{IsTableOf-upserted, IsTableOf-deleted}
use Rattle.tc_machine.specs.Kept.{IsMemoryKept}
use Rattle.tc_machine.specs.Logs.{kept_write}
use Rattle.tc_machine.specs.State.{sealed_table}
use Rattle.tc_machine.specs.Writes.{IsStorableWrite, HasRoom}
use Rattle.tc_machine.proofs.Holding.{holds}
use Rattle.tc_part_model.specs.Changes.{with_staged}
use Rattle.tc_part_model.specs.Meaning.{KeepsTable, IsPart, all_shown}
use Rattle.tc_part_model.specs.PartFiles.{AreKeptAt}
use Rattle.tc_part_model.specs.PartState.{Told, AreTold}
use Rattle.tc_part_model.specs.PartView.{PartView, state_of, stored_with, below_of, table_of, names_in, MayStart}
use Rattle.tc_part_model.specs.Staging.{called, taken_with, HandsShape}
use Rattle.tc_part_model.proofs.ToldFiles.{if_files_map}
use Rattle.tc_part_model.proofs.TableViews.{called_below, same_below, same_called}
use Rattle.tc_part_model.proofs.ViewLaws.{kept-append}
use Rattle.tc_part_model.proofs.TakenNames.{HasEach-known, HasEach-taken, HasEach-write, KnowsWritten-taken, no_more}

-- ---- the table

called_keeps : (below : ℕ → Option ShapeTree) (w : Write) (t : documents.Table) → IsStorableWrite w → All IsStoredAt t → IsTableOf (documents.table_with below t w) (called w (below w.0) (kept_table t))
called_keeps below (key, Some d) t storable stored = IsTableOf-upserted below key d t (kept_table t) storable.document storable.storable (record { is = refl; stored = stored })
called_keeps below (key, None) t storable stored = IsTableOf-deleted below key t (kept_table t) (record { is = refl; stored = stored })

one_more : (w : Write) (p : PartView) → table_of (with_staged w p) ≡ documents.table_with (documents.shape_in (below_of p)) (table_of p) w
one_more w p = fold-append (documents.table_with (documents.shape_in (below_of p))) p.active.table p.staged (w ∷ [])

staged_table : (t : Told) (p : PartView) (w : Write) (handed : Option ShapeTree) → IsStorableWrite w → HandsShape t p w.0 handed → KeepsTable (AreTold t.components) (table_of p) t.active
    → KeepsTable (AreTold t.components) (table_of (with_staged w p)) (called w handed t.active)
staged_table t p w handed storable hands keeps =
    let below = documents.shape_in (below_of p) in
    let of = called_keeps below w (table_of p) storable keeps.stored in
    subst (λ table. KeepsTable (AreTold t.components) table (called w handed t.active)) (sym (one_more w p)) (record {
      stored = of.stored;
      holds = same_called w handed (below w.0) t.active (kept_table (table_of p)) keeps.holds (same_below w.0 handed (below w.0) t.active hands.there) ∙ ap all_shown of.is;
      shapes = λ are_told. called_below w handed (below w.0) t.active (hands.shape are_told) ∙ ap (called w (below w.0)) (keeps.shapes are_told) ∙ of.is;
    })

-- ---- the names

distinct_names : (p : PartView) → IsMemoryKept p.part (state_of p) → IsDistinct bytes_eq (names_in p)
distinct_names p memory =
    distinct-names_after (names_after (names_of p.list) (documents.writes_of (sealed_table p.sealed))) (documents.writes_of p.active.table ++ p.staged)
    (distinct-names_after (names_of p.list) (documents.writes_of (sealed_table p.sealed)) (newest_of_list p.part p.list memory.list).dictionary.distinct)

staged_names : (p : PartView) (w : Write) (taken : List Name) → HasEach taken (names_in p) → HasEach (taken_with w taken) (names_in (with_staged w p))
staged_names p w taken each =
    let known = names_after (names_of p.list) (documents.writes_of (sealed_table p.sealed)) in
    let ws = documents.writes_of p.active.table ++ p.staged in
    subst (λ vs. HasEach (taken_with w taken) (names_after known vs)) (append_assoc (documents.writes_of p.active.table) p.staged (w ∷ []))
    (HasEach-write (taken_with w taken) known ws w (HasEach-taken w taken known (HasEach-known taken known ws each)) (HasEach-taken w taken (names_after known ws) each) (KnowsWritten-taken w taken))

-- ---- a part

staged_starts : (p : PartView) (w : Write) (taken : List Name) → IsMemoryKept p.part (state_of p) → MayStart p → IsStorableWrite w → HasEach taken (names_in p) → length (taken_with w taken) < 2 ^ 32
    → length (stored_with (with_staged w p)) < 2 ^ 32 → MayStart (with_staged w p)
staged_starts p w taken memory start storable each few room = record {
  each = All-append IsStorableWrite p.staged (w ∷ []) start.each (All-cons IsStorableWrite w [] storable (All-nil IsStorableWrite));
  room = subst (λ pairs. HasRoom (after_writes pairs (p.staged ++ w ∷ []))) (sym (holds memory)) room;
  few = omega (arith, few, no_more (taken_with w taken) (names_in (with_staged w p)) (distinct_names (with_staged w p) memory) (staged_names p w taken each));
}

module _ (t : Told) (p : PartView) (w : Write) (handed : Option ShapeTree) (is : IsPart t p) (storable : IsStorableWrite w) (hands : HandsShape t p w.0 handed) where
  staged_told : length (taken_with w t.taken) < 2 ^ 32 → length (stored_with (with_staged w p)) < 2 ^ 32
      → IsPart (record t { active = called w handed t.active; staged = t.staged ++ kept_write w ∷ []; taken = taken_with w t.taken; live = length (stored_with (with_staged w p)) }) (with_staged w p)
  staged_told few room = record {
    sound = is.sound;
    view = record {
      part = is.view.part;
      generation = is.view.generation;
      components = is.view.components;
      sealed = is.view.sealed;
      sealed_log = is.view.sealed_log;
      active = staged_table t p w handed storable hands is.view.active;
      staged = ap (λ ws. ws ++ kept_write w ∷ []) is.view.staged ∙ sym (kept-append p.staged (w ∷ []));
      taken = staged_names p w t.taken is.view.taken;
      live = refl;
      flushing = is.view.flushing;
      merging = is.view.merging;
    };
    memory = is.memory;
    staged = staged_starts p w t.taken is.memory is.staged storable is.view.taken few room;
    room = is.room;
    tells = is.tells;
    files = record {
      kept = if_files_map (AreKeptAt p false None) (AreKeptAt (with_staged w p) false None) t.disks t.log t.sealed_log (λ disk f g k. record { log_out = k.log_out; sealed_out = k.sealed_out; devices = k.devices; kept = k.kept }) is.files.kept;
      jobs = is.files.jobs;
    };
  }

  pub stage_is_part : (u : Told) → u ≡ record t { active = called w handed t.active; staged = t.staged ++ kept_write w ∷ []; taken = taken_with w t.taken; live = u.live }
      → u.live ≡ length (stored_with (with_staged w p)) → u.live < 2 ^ 32 → length u.taken < 2 ^ 32 → IsPart u (with_staged w p)
  stage_is_part u same count room few =
      subst (λ x. IsPart x (with_staged w p)) (sym (same ∙ ap (λ n. record t { active = called w handed t.active; staged = t.staged ++ kept_write w ∷ []; taken = taken_with w t.taken; live = n }) count))
      (staged_told (subst (λ (x : Told). length x.taken < 2 ^ 32) same few) (subst (λ n. n < 2 ^ 32) count room))
