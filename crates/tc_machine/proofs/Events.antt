-- Each event keeps what is kept, and so does each run.
use Rattle.std.proofs.Common.{◌≡◌, ◌≢◌, List, [], ◌∷◌, subst, sym, refl, inr, true, false}
use Rattle.std.specs.Prelude.{IsSome}
use Rattle.std.proofs.lemmas.Bool.{true≢false}
use Rattle.tc_lsm_model.specs.Contents.{Partition}
use Rattle.tc_store.specs.Disk.{IsThere, content_of, home, none, taken}
use Rattle.tc_store.specs.declared.file_name.FileName.{FileName}
use Rattle.tc_store.specs.declared.file_name.FileName.TheVariants.{Log}
use Rattle.tc_machine.specs.Events.{Event, device_called, file_frozen, file_removed, file_wasted, flush_begun, flush_installed, frame_committed, frame_started, log_made, made, merge_begun, merge_installed, part_failed, part_started, snapshot_taken, step, stopped, table_sealed}
use Rattle.tc_machine.specs.Kept.{IsKept}
use Rattle.tc_machine.specs.Runs.{Runs}
use Rattle.tc_machine.specs.State.{State, next_generation}
use Rattle.tc_machine.specs.Steps.{May}
use Rattle.tc_machine.proofs.DeviceSteps.{device_called_keeps, file_frozen_keeps, file_removed_keeps}
use Rattle.tc_machine.proofs.FilesMade.{file_made_keeps}
use Rattle.tc_machine.proofs.FreeNames.{next_log_is_free}
use Rattle.tc_machine.proofs.InstallSteps.{flush_installed_keeps, merge_installed_keeps}
use Rattle.tc_machine.proofs.JobSteps.{flush_begun_keeps, merge_begun_keeps}
use Rattle.tc_machine.proofs.OpeningSteps.{opened_is_kept}
use Rattle.tc_machine.proofs.RunSteps.{frame_committed_keeps, frame_started_keeps, making_keeps, part_failed_keeps, part_started_keeps, snapshot_taken_keeps, table_sealed_keeps, with_one_file}

-- Where no next log is made, a file that is there is none.
there_is_not_next : (part : Partition) (s : State) (name : FileName) → IsKept part s → IsThere (s.files name) → IsSome s.active → s.failed ≡ false → s.making ≡ false → name ≢ Log (next_generation s)
there_is_not_next part s name k there running sound not_made same = next_log_is_free part s k running sound not_made (subst (λ n. IsThere (s.files n)) same there)

pub event_keeps : (part : Partition) (s : State) (e : Event) → IsKept part s → May part e s → IsKept part (step e s)
event_keeps part s (frame_started ws) k m = frame_started_keeps part s ws k m
event_keeps part s frame_committed k m = frame_committed_keeps part s k m
event_keeps part s table_sealed k m = table_sealed_keeps part s k m
event_keeps part s part_started k m = part_started_keeps part s k m
event_keeps part s flush_begun k m = flush_begun_keeps part s k m
event_keeps part s (merge_begun run c) k m = merge_begun_keeps part s run c k m
event_keeps part s (flush_installed c) k m = flush_installed_keeps part s c k m
event_keeps part s merge_installed k m = merge_installed_keeps part s k m
event_keeps part s part_failed k m = part_failed_keeps part s k
event_keeps part s log_made k m =
    with_one_file part (record s { making = true }) (Log (next_generation s)) (made (s.files (Log (next_generation s)))) (making_keeps part s k)
    (file_made_keeps part (record s { making = true }) (Log (next_generation s)) (making_keeps part s k).files (record { before = m.before; absent = m.absent }))
    (λ running sound there. inr (refl, refl)) (λ running sound not_made. absurd (true≢false not_made))
event_keeps part s (file_wasted name) k m =
    let failed : IsKept part (record s { failed = true }) = part_failed_keeps part s k in
    with_one_file part (record s { failed = true }) name (made (s.files name)) failed (file_made_keeps part (record s { failed = true }) name failed.files (record { before = m.before; absent = m.absent }))
    (λ running sound. absurd (true≢false sound)) (λ running sound. absurd (true≢false sound))
event_keeps part s (device_called name f) k m =
    with_one_file part s name (home f) k (device_called_keeps part s name f k.memory.list k.memory.flush k.memory.merge k.files m)
    (λ running sound there. k.expected running sound name (subst (λ e. IsThere e) (sym m.home) tt)) (there_is_not_next part s name k (subst (λ e. IsThere e) (sym m.home) tt))
event_keeps part s (file_frozen name) k m =
    with_one_file part s name (taken (s.files name)) k (file_frozen_keeps part s name k.files m)
    (λ running sound there. k.expected running sound name (subst (λ e. IsThere e) (sym m.home) tt)) (there_is_not_next part s name k (subst (λ e. IsThere e) (sym m.home) tt))
event_keeps part s (file_removed name) k m =
    with_one_file part s name (none (content_of (s.files name))) k (file_removed_keeps part s name k.files m) (λ running sound there. absurd there)
    (there_is_not_next part s name k (subst (λ e. IsThere e) (sym m.still) tt))
event_keeps part s snapshot_taken k m = snapshot_taken_keeps part s k m
event_keeps part s (stopped picture cs ls) k m = opened_is_kept part picture cs ls m.opens

pub run_keeps : (part : Partition) (events : List Event) (s s' : State) → IsKept part s → Runs part s events s' → IsKept part s'
run_keeps part [] s s' k r = subst (λ t. IsKept part t) r k
run_keeps part (e ∷ es) s s' k r = run_keeps part es (step e s) s' (event_keeps part s e k r.0) r.1
