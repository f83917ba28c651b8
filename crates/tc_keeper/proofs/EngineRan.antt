-- What a window of an engine promises is what is said of its share.
use Rattle.std.proofs.Common.{false, ◌≡◌, ◌∙◌, ℕ, Bool, true, List, map, ap, sym}
use Rattle.std.specs.Map.{keys_of}
use Rattle.std.specs.Prelude.{Result, Ok, Err, IfOk, OnErr, OnOk}
use Rattle.std.proofs.lemmas.Bool.{true≢false}
use Rattle.tc_log.specs.declared.write.Write.{Write}
use Rattle.tc_part.specs.FilesOut.{HoldsDevices}
use Rattle.tc_part_model.specs.PartState.{PartState}
use Rattle.tc_route.specs.Meaning.{placed_of, rendered_in, routed_of}
use Rattle.tc_route.specs.declared.placed.Placed.{Placed}
use Rattle.tc_route.specs.declared.placed.Routed.{Routed}
use Rattle.tc_running.specs.Jobs.{JobsState}
use Rattle.tc_work.specs.EngineState.{EngineState}
use Rattle.tc_work.specs.Moving.{beside, told_part, Eyes, IsOutBy}
use Rattle.tc_work.specs.Settling.{MaySettle}
use Rattle.tc_work.specs.declared.fault.EngineFault.{EngineFault}
use Rattle.tc_keeper.specs.Running.{HasOnlyRun}
use Rattle.tc_keeper.specs.WithJobs.{IsStaffed}
use Rattle.tc_keeper.proofs.SharesRun.{read_again}

-- an engine that had not failed has not where nothing else changed
pub still_sound : {S D F W T E : Type 0} (answer : Result T E) (old new : PartState S D F W) → old.failed ≡ false → OnOk answer (new ≡ record old { main = new.main; active = new.active; log = new.log; taken = new.taken; live = new.live; writes = new.writes }) → OnOk answer (new.failed ≡ false)
still_sound (Ok x) old new sound same = ap (λ (s : PartState _ _ _ _). s.failed) same ∙ sound
still_sound (Err e) old new sound same = tt

pub still_staged : {S D F W T E : Type 0} (answer : Result T E) (old new : PartState S D F W) → OnOk answer (new ≡ record old { main = new.main; active = new.active; log = new.log; taken = new.taken; live = new.live; writes = new.writes }) → OnOk answer (new.staged ≡ old.staged)
still_staged (Ok x) old new same = ap (λ (s : PartState _ _ _ _). s.staged) same
still_staged (Err e) old new same = tt

pub left_failed : {S D F W T E : Type 0} (answer : Result T E) (old new : PartState S D F W) → OnErr answer (new ≡ record old { main = new.main; active = new.active; staged = new.staged; taken = new.taken; live = new.live; log = new.log; failed = true }) → OnErr answer (new.failed ≡ true)
left_failed (Ok x) old new left = tt
left_failed (Err e) old new left = ap (λ (s : PartState _ _ _ _). s.failed) left

pub places_read : (answer : Result (List Placed) EngineFault) (list : List Routed) → IfOk answer (λ replies. map (λ a. a.at) replies ≡ map (λ r. r.at) list) → IfOk answer (λ replies. keys_of (rendered_in replies) ≡ keys_of (map routed_of list))
places_read (Ok replies) list same = read_again (λ e. e.0) placed_of replies ∙ same ∙ sym (read_again (λ e. e.0) routed_of list)
places_read (Err fault) list same = tt

-- nothing of a part changed but what a window writes, whether it ended well or not
pub only_run : {S D F W T E : Type 0} (answer : Result T E) (old new : PartState S D F W) → OnOk answer (new ≡ record old { main = new.main; active = new.active; log = new.log; taken = new.taken; live = new.live; writes = new.writes })
    → OnErr answer (new ≡ record old { main = new.main; active = new.active; staged = new.staged; taken = new.taken; live = new.live; log = new.log; failed = true }) → HasOnlyRun old new
only_run (Ok x) old new same left =
    let staged : new.staged ≡ old.staged = ap (λ (s : PartState _ _ _ _). s.staged) same in
    let failed : new.failed ≡ old.failed = ap (λ (s : PartState _ _ _ _). s.failed) same in
    same
    ∙ ap (λ (ws : List Write). record old { main = new.main; active = new.active; staged = ws; log = new.log; taken = new.taken; live = new.live; writes = new.writes }) (sym staged)
    ∙ ap (λ (b : Bool). record old { main = new.main; active = new.active; staged = new.staged; log = new.log; taken = new.taken; live = new.live; writes = new.writes; failed = b }) (sym failed)
only_run (Err e) old new same left =
    let failed : new.failed ≡ true = ap (λ (s : PartState _ _ _ _). s.failed) left in
    let writes : new.writes ≡ old.writes = ap (λ (s : PartState _ _ _ _). s.writes) left in
    left
    ∙ ap (λ (b : Bool). record old { main = new.main; active = new.active; staged = new.staged; log = new.log; taken = new.taken; live = new.live; failed = b }) (sym failed)
    ∙ ap (λ (n : ℕ). record old { main = new.main; active = new.active; staged = new.staged; log = new.log; taken = new.taken; live = new.live; writes = n; failed = new.failed }) (sym writes)

-- the jobs that are out stay those of the engine, it holds its devices, and it has its own files still, unless it failed
pub run_staffed : {S D F W T E : Type 0} (answer : Result T E) (eyes : Eyes S D F W) (old new : EngineState S D F W) (jobs : JobsState F D W) → old.part.failed ≡ false → (IsOutBy eyes (beside old.part jobs) → IsOutBy eyes (beside new.part jobs))
    → OnOk answer (MaySettle (told_part eyes old.part) → MaySettle (told_part eyes new.part)) → OnErr answer (new.part.failed ≡ true) → (HoldsDevices (told_part eyes old.part) → HoldsDevices (told_part eyes new.part)) → IsStaffed eyes old jobs → IsStaffed eyes new jobs
run_staffed (Ok x) eyes old new jobs sound out ready failed holds staffed = record { out = out staffed.out; ready = λ is. ready (staffed.ready sound); devices = holds staffed.devices }
run_staffed (Err e) eyes old new jobs sound out ready failed holds staffed = record { out = out staffed.out; ready = λ is. absurd (true≢false (sym failed ∙ is)); devices = holds staffed.devices }
