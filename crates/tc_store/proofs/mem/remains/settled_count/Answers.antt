use Rattle.std.proofs.Common.{◌≡◌, ℕ, false, ap, subst, sym, ◌∙◌, arith, inl, inr}
use Rattle.std.specs.Prelude.{slice_index_or}
use Rattle.std.proofs.lemmas.Bool.{cases_lt}
use Rattle.std.proofs.lemmas.List.{get_or_default}
use Rattle.tc_store.specs.DiskFile.{empty_file}
use Rattle.tc_store.specs.Memory.Remains.{is_sync, IsUnsynced}
use Rattle.tc_store.proofs.Memory.RemainsLemmas.{file_from-next, unsynced_after}
use Rattle.tc_store.proofs.mem.remains.settled_count.Goals as goal
use Rattle.tc_store.proofs.mem.remains.settled_count.Goals.{then-is_sync_call, else-is_sync_call}

pub loop-i-preserved : goal.loop-i-preserved
loop-i-preserved c = elim c.if-is_sync_call.branch [
  | then-is_sync_call w ↦ record {
    within = omega (arith, w.settled-is);
    unsynced = λ none before. absurd (omega (arith, w.settled-is, none));
    pending = λ k d from before. absurd (omega (arith, w.settled-is, from, before));
  }
  | else-is_sync_call w ↦
      let calls = c.args.calls.now in
      let call = c.index-calls-i.result in
      let test : is_sync call ≡ false = sym c.is_sync_call.ensures ∙ w.if-is_sync_call.false in
      record {
        within = omega (arith, w.settled-is, c.loop-i.invariant.within);
        unsynced = λ none before.
            subst (IsUnsynced before) (sym (file_from-next (empty_file before) calls c.loop-i.i call c.loop-i-test.true c.index-calls-i.is))
            (unsynced_after before _ call test (c.loop-i.invariant.unsynced (omega (arith, w.settled-is, none)) before));
        pending = λ k d from before. elim (cases_lt k c.loop-i.i) [
          | inl earlier ↦ c.loop-i.invariant.pending k d (omega (arith, w.settled-is, from)) earlier
          | inr last ↦
              let here : k ≡ c.loop-i.i = omega (arith, last, before) in
              let read : call ≡ slice_index_or calls c.loop-i.i d = c.index-calls-i.is ∙ get_or_default calls c.loop-i.i call d c.loop-i-test.true in
              subst (λ (n : ℕ). is_sync (slice_index_or calls n d) ≡ false) (sym here) (ap is_sync (sym read) ∙ test)
        ];
      }
]
