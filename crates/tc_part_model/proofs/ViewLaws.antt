-- What follows of the memory of a part: what it holds, and what may be staged where nothing is.
use Rattle.std.proofs.Common.{◌≡◌, List, [], ◌∷◌, ◌++◌, refl, sym, ap, ◌∙◌, subst, append-nil, Some, false}
use Rattle.std.specs.Prelude.{All, map}
use Rattle.std.proofs.lemmas.List.Elements.{All-nil}
use Rattle.std.proofs.lemmas.List.Sums.{fold-append}
use Rattle.tc_plain_model.specs.Store.{names_after}
use Rattle.tc_plain_model.specs.Writes.{Write, after_writes}
use Rattle.tc_plain_model.proofs.WriteLaws.{after_writes-append}
use Rattle.tc_lsm_model.specs.Lists.{live, names_of}
use Rattle.tc_lsm_model.specs.Tables.{shape_in, table_over, table_with, writes_of}
use Rattle.tc_machine.specs.Kept.{IsMemoryKept}
use Rattle.tc_machine.specs.Logs.{kept_write}
use Rattle.tc_machine.specs.State.{held, history, sealed_table, table_after}
use Rattle.tc_machine.specs.Writes.{IsStorableWrite, HasRoom, AreFew}
use Rattle.tc_machine.proofs.Holding.{holds}
use Rattle.tc_lsm_model.proofs.WrittenNames.{names_after-table}
use Rattle.tc_machine.proofs.MemorySteps.{frame_committed_memory, frame_started_memory, history_after}
use Rattle.tc_part_model.specs.PartView.{PartView, state_of, state_with, no_files, store_of, stored_with, below_of, table_of, names_in, MayStart}
use Rattle.tc_part_model.specs.Changes.{committed_part}

pub nothing_starts : (p : PartView) → p.staged ≡ [] → IsMemoryKept p.part (state_of p) → MayStart p
nothing_starts p none memory = record {
  each = subst (λ ws. All IsStorableWrite ws) (sym none) (All-nil IsStorableWrite);
  room = subst (λ ws. HasRoom (after_writes (held (state_of p)) ws)) (sym none) (subst (λ pairs. HasRoom pairs) (sym (holds memory)) memory.room);
  few = subst (λ ws. AreFew (names_in (record p { staged = ws }))) (sym none) memory.few;
}

-- ---- a commit

-- while the frame is appended, and behind it
pub appending_memory : (p : PartView) → IsMemoryKept p.part (state_of p) → MayStart p → IsMemoryKept p.part (state_with p false (Some p.staged) no_files)
appending_memory p memory starts =
    frame_started_memory p.part (state_of p) p.staged memory (record { running = refl; none = refl; each = starts.each; room = starts.room; few = starts.few })

pub committed_memory : (p : PartView) → IsMemoryKept p.part (state_of p) → MayStart p → IsMemoryKept p.part (state_of (committed_part p))
committed_memory p memory starts =
    frame_committed_memory p.part (state_with p false (Some p.staged) no_files) p.active p.staged refl refl (appending_memory p memory starts)

pub commit_adds : (p : PartView) → store_of (committed_part p) ≡ stored_with p
commit_adds p =
    ap (λ h. after_writes (live p.list) h) (history_after (state_with p false (Some p.staged) no_files) p.active p.staged refl)
    ∙ after_writes-append (live p.list) (history (state_of p)) p.staged

-- the table holds what the frame says
pub table_is : (p : PartView) → IsMemoryKept p.part (state_of p) → table_of p ≡ table_over (below_of p) (p.active.writes ++ p.staged)
table_is p memory =
    ap (λ t. table_after (below_of p) t p.staged) memory.active ∙ sym (fold-append (table_with (shape_in (below_of p))) [] p.active.writes p.staged)

pub committed_names : (p : PartView) → IsMemoryKept p.part (state_of p) → names_in (committed_part p) ≡ names_in p
committed_names p memory =
    let known = names_after (names_of p.list) (writes_of (sealed_table p.sealed)) in
    ap (λ t. names_after known (writes_of t ++ [])) (table_is p memory)
    ∙ names_after-table known (below_of p) (p.active.writes ++ p.staged) []
    ∙ ap (λ ws. names_after known ws) (append-nil (p.active.writes ++ p.staged))
    ∙ sym (names_after-table known (below_of p) p.active.writes p.staged)
    ∙ sym (ap (λ t. names_after known (writes_of t ++ p.staged)) memory.active)

pub commit_of_none : (p : PartView) → p.staged ≡ [] → committed_part p ≡ p
commit_of_none p is =
    ap (λ ws. record p { active = record { table = table_after (below_of p) p.active.table ws; writes = p.active.writes ++ ws }; staged = [] }) is
    ∙ ap (λ ws. record p { active = record { table = p.active.table; writes = ws }; staged = [] }) (append-nil p.active.writes)
    ∙ ap (λ ws. record p { staged = ws }) (sym is)

-- ---- what is staged, as a log keeps it

pub kept-append : (xs ys : List Write) → map kept_write (xs ++ ys) ≡ map kept_write xs ++ map kept_write ys
kept-append [] ys = refl
kept-append (x ∷ xs) ys = ap (λ r. kept_write x ∷ r) (kept-append xs ys)

pub none_kept : (ws : List Write) → [] ≡ map kept_write ws → ws ≡ []
none_kept [] none = refl
none_kept (w ∷ ws) none = absurd (cc)
