use Rattle.std.proofs.Common.{◌≡◌, ap, sym, subst, refl, Some, None, ◌∙◌, Option}
use Rattle.std.specs.Prelude.{IsSome}
use Rattle.std.proofs.lemmas.Bool.{false≢true}
use Rattle.tc_lsm_model.specs.Contents.{Partition}
use Rattle.tc_machine.specs.State.{Merging, State}
use Rattle.tc_machine.specs.Events.{step, flush_installed, merge_installed}
use Rattle.tc_machine.specs.Kept.{IsMemoryKept}
use Rattle.tc_machine.proofs.Holding.{holds, sealed_holds, sealed_shapes, active_shapes}
use Rattle.tc_machine.proofs.MemorySteps.{same_memory, frame_started_memory, frame_committed_memory, committed_is, unsealed, unsealed_is, after_seal, sealing_memory, sealed_step, flush_begun_memory, flushing, flushing_is, flush_installed_memory, merge_begun_memory, merging, merge_installed_memory, rebased_memory}
use Rattle.tc_machine.proofs.RunSteps.{active_of}
use Rattle.tc_machine.proofs.memory.memory_is_kept.Goals as goal

pub returns-clause-files : goal.returns-clause-files
returns-clause-files c = same_memory

pub returns-clause-started : goal.returns-clause-started
returns-clause-started c = frame_started_memory

pub returns-clause-committed : goal.returns-clause-committed
returns-clause-committed c = λ part s d ws kept active frame. subst (IsMemoryKept part) (sym (committed_is s d ws active frame)) (frame_committed_memory part s d ws active frame kept)

pub returns-clause-sealed : goal.returns-clause-sealed
returns-clause-sealed c = λ part s kept running none no_frame.
    let there = active_of s.active running in
    let is : unsealed s there.0 ≡ s = unsealed_is s there.0 none there.1 no_frame in
    subst (IsMemoryKept part) (ap (λ t. after_seal t there.0) is ∙ sym (sealed_step s there.0 there.1)) (sealing_memory part s there.0 (subst (IsMemoryKept part) (sym is) kept))

pub returns-clause-flush_begun : goal.returns-clause-flush_begun
returns-clause-flush_begun c = flush_begun_memory

pub returns-clause-flush_installed : goal.returns-clause-flush_installed
returns-clause-flush_installed c = λ part s d content kept sealed is_flush.
    let is : flushing s d s.flush ≡ s = flushing_is s d s.flush sealed refl in
    subst (λ x. IsMemoryKept part (step (flush_installed content) x)) is (flush_installed_memory part s d s.flush content (subst (IsMemoryKept part) (sym is) kept) is_flush)

pub returns-clause-merge_begun : goal.returns-clause-merge_begun
returns-clause-merge_begun c = merge_begun_memory

pub returns-clause-merge_installed : goal.returns-clause-merge_installed
returns-clause-merge_installed c = λ part s kept some. installed part s s.merge refl kept some
  where
    installed : (part : Partition) (s : State) (o : Option Merging) → s.merge ≡ o → IsMemoryKept part s → IsSome s.merge → IsMemoryKept part (step merge_installed s)
    installed part s None is kept some = absurd (false≢true (subst (λ o. IsSome o) is some))
    installed part s (Some m) is kept some =
        let same : merging s m ≡ s = ap (λ o. record s { merge = o }) (sym is) in
        subst (λ t. IsMemoryKept part (step merge_installed t)) same (merge_installed_memory part s m (subst (IsMemoryKept part) (sym same) kept))

pub returns-clause-rebased : goal.returns-clause-rebased
returns-clause-rebased c = rebased_memory

pub returns-clause-holds : goal.returns-clause-holds
returns-clause-holds c = λ part s kept. holds kept

pub returns-clause-below : goal.returns-clause-below
returns-clause-below c = λ part s kept. sealed_holds kept

pub returns-clause-sealed_shapes : goal.returns-clause-sealed_shapes
returns-clause-sealed_shapes c = λ part s kept. sealed_shapes kept

pub returns-clause-active_shapes : goal.returns-clause-active_shapes
returns-clause-active_shapes c = λ part s kept. active_shapes kept
