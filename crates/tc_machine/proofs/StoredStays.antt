-- Only a commit and a stop change what the partition holds.
use Rattle.std.proofs.Common.{◌≡◌, List, [], ◌∷◌, ◌++◌, refl, sym, ap, ◌∙◌, Option, Some, None, append_assoc, append-nil}
use Rattle.std.specs.Prelude.{IsSome}
use Rattle.tc_plain_model.specs.Writes.{Write, after_writes}
use Rattle.tc_plain_model.proofs.WriteLaws.{after_writes-append}
use Rattle.tc_lsm_model.specs.Contents.{Content, Partition}
use Rattle.tc_lsm_model.specs.Lists.{live}
use Rattle.tc_store.specs.Disk.{Picture}
use Rattle.tc_machine.specs.Events.{Event, KeepsStored, device_called, file_frozen, file_removed, file_wasted, flush_begun, flush_installed, frame_committed, frame_started, log_made, merge_begun, merge_installed, opened, part_failed, part_started, sealed_by, snapshot_taken, step, stopped, table_sealed}
use Rattle.tc_machine.specs.Kept.{IsKept}
use Rattle.tc_machine.specs.Logs.{all_writes}
use Rattle.tc_machine.specs.Pictures.{recovered}
use Rattle.tc_machine.specs.State.{Active, Sealed, State, active_logs, history, sealed_logs, stored_in}
use Rattle.tc_machine.specs.Steps.{May}
use Rattle.tc_machine.proofs.Holding.{all_writes-append}
use Rattle.tc_machine.proofs.MemorySteps.{committed_is, history_after, opened_logs}

sealed_history : (folded : List Write) (sealed : Option Sealed) (active : Option Active) → sealed ≡ None → IsSome active
    → folded ++ all_writes (sealed_logs (sealed_by active) ++ ([] ∷ [])) ≡ folded ++ all_writes (sealed_logs sealed ++ active_logs active)
sealed_history folded sealed None is there = absurd (cc)
sealed_history folded sealed (Some d) is there = ap (λ l. folded ++ all_writes (sealed_logs l ++ d.writes ∷ [])) (sym is)

pub stored_stays : (part : Partition) (s : State) (e : Event) → KeepsStored e → IsKept part s → May part e s → stored_in (step e s) ≡ stored_in s
stored_stays part s (frame_started ws) l k m = refl
stored_stays part s frame_committed l k m = absurd l
stored_stays part s table_sealed l k m = ap (λ h. after_writes s.base h) (sealed_history s.folded s.sealed s.active m.none_sealed m.running)
stored_stays part s part_started l k m =
    ap (λ d. after_writes (after_writes s.base s.folded) (all_writes (sealed_logs d ++ [] ∷ []))) m.none_sealed
    ∙ ap (λ h. after_writes s.base h) (sym (append-nil s.folded) ∙ ap (λ ls. s.folded ++ all_writes ls) (sym (ap (λ d. sealed_logs d ++ active_logs s.active) m.none_sealed ∙ ap (λ a. active_logs a) m.opening)))
stored_stays part s flush_begun l k m = refl
stored_stays part s (merge_begun run c) l k m = refl
stored_stays part s (flush_installed c) l k m =
    ap (λ h. after_writes s.base h) (append_assoc s.folded (all_writes (sealed_logs s.sealed)) (all_writes (active_logs s.active)) ∙ ap (λ ws. s.folded ++ ws) (sym (all_writes-append (sealed_logs s.sealed) (active_logs s.active))))
stored_stays part s merge_installed l k m = refl
stored_stays part s part_failed l k m = refl
stored_stays part s log_made l k m = refl
stored_stays part s (file_wasted name) l k m = refl
stored_stays part s (device_called name f) l k m = refl
stored_stays part s (file_frozen name) l k m = refl
stored_stays part s (file_removed name) l k m = refl
stored_stays part s snapshot_taken l k m = refl
stored_stays part s (stopped picture cs ls) l k m = absurd l

-- an opened picture holds what it recovers to
pub opened_stored : (picture : Picture) (cs : List Content) (ls : List (List Write)) → stored_in (opened picture cs ls) ≡ (recovered cs ls).pairs
opened_stored picture cs ls = ap (λ l. after_writes (live cs) (all_writes l)) (opened_logs picture cs ls)

-- and a commit adds the frame
pub stored_committed : (part : Partition) (s : State) (d : Active) (ws : List Write) → s.active ≡ Some d → s.frame ≡ Some ws → stored_in (step frame_committed s) ≡ after_writes (stored_in s) ws
stored_committed part s d ws is_active is_frame =
    ap (λ t. stored_in t) (committed_is s d ws is_active is_frame)
    ∙ ap (λ h. after_writes s.base h) (history_after s d ws is_active)
    ∙ after_writes-append s.base (history s) ws

-- a part that has started has no writes of this run
pub started_anew : (part : Partition) (s : State) → May part part_started s → history (step part_started s) ≡ []
started_anew part s m = ap (λ d. all_writes (sealed_logs d ++ [] ∷ [])) m.none_sealed
