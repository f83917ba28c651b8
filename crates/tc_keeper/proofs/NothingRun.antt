-- What is said of each engine where nothing was run.
use Rattle.std.proofs.Common.{◌≡◌, ℕ, List, [], ◌∷◌, length, arith, refl}
use Rattle.std.specs.Prelude.{Some}
use Rattle.std.proofs.lemmas.List.Elements.{All-nil}
use Rattle.tc_model.specs.Keyed.{Keyed, values_in}
use Rattle.tc_request_model.specs.Request.{Request}
use Rattle.tc_store.specs.Disk.{Disk}
use Rattle.tc_store.specs.DiskFile.{DiskFile}
use Rattle.tc_store.specs.Moments.{EachSince, IfTold}
use Rattle.tc_request_model.specs.Part.{part_writes_all}
use Rattle.tc_part.specs.FilesOut.{OnlyDevicesOut}
use Rattle.tc_part_model.specs.Leaving.{LeavesStore, LogMomentsLeaveStore}
use Rattle.tc_part_model.specs.Meaning.{plain_of}
use Rattle.tc_part_model.specs.PartFiles.{no_job, IsSealedFile}
use Rattle.tc_part_model.specs.PartState.{Told}
use Rattle.tc_part_model.specs.PartView.{PartView}
use Rattle.tc_route.specs.Shares.{share}
use Rattle.tc_work.specs.Moving.{told_part, Eyes}
use Rattle.tc_work.specs.Reads.{live_in, most_reads, IsCountedWithin}
use Rattle.tc_work.specs.Windowed.{staged_as}
use Rattle.tc_keeper.specs.Places.{AtEach}
use Rattle.tc_keeper.specs.Running.{HasOnlyRun, RanMoments}
use Rattle.tc_keeper.specs.Windows.{HaveRun}
use Rattle.tc_keeper.specs.WithJobs.{told_of, WithJobs}
use Rattle.tc_keeper.proofs.PlaceLaws.{at_each-same}

-- a log that stays has no moments more
pub moments_same : (p : PartView) (t : Told) → LogMomentsLeaveStore p t t.log
moments_same p t = at t.disks t.log
  where
    at : (disks : List Disk) (log : List DiskFile) → IfTold disks (λ disk. (g : DiskFile) → IsSealedFile t.sealed_log g → IfTold log (λ f. EachSince (LeavesStore p (Some p.staged) no_job disk g) log log))
    at [] log = tt
    at (disk ∷ past) [] = λ g sealed. tt
    at (disk ∷ past) (f ∷ fs) = λ g sealed. record { added = []; goes_on = refl; each = All-nil (LeavesStore p (Some p.staged) no_job disk g); untold = λ none. none }

module _ {S D F W : Type 0} (eyes : Eyes S D F W) (window : Keyed Request) (es : List (WithJobs S D F W)) where
  nothing_same : AtEach (λ p old new. HasOnlyRun old.engine.part new.engine.part × (new.engine.policy ≡ old.engine.policy) × (new.jobs ≡ old.jobs)) 0 es es
  nothing_same = at_each-same (λ p old new. HasOnlyRun old.engine.part new.engine.part × (new.engine.policy ≡ old.engine.policy) × (new.jobs ≡ old.jobs)) 0 es (λ p e. (refl, refl, refl))

  nothing_out : AtEach (λ p old new. OnlyDevicesOut (told_of eyes old) → OnlyDevicesOut (told_of eyes new)) 0 es es
  nothing_out = at_each-same (λ p old new. OnlyDevicesOut (told_of eyes old) → OnlyDevicesOut (told_of eyes new)) 0 es (λ p e is. is)

  nothing_written : AtEach (λ p old new. RanMoments (told_part eyes) eyes.history (share (length es) p window) old.engine new.engine) 0 es es
  nothing_written = at_each-same (λ p old new. RanMoments (told_part eyes) eyes.history (share (length es) p window) old.engine new.engine) 0 es
      (λ p e q is. moments_same (staged_as (part_writes_all e.engine.part.limits (values_in (share (length es) p window)) (plain_of (told_of eyes e) q)) q) (told_of eyes e))

  pub nothing_ran : HaveRun eyes window es es
  nothing_ran = record { same = nothing_same; devices = nothing_out; moments = nothing_written }

  pub nothing_counted : (Q : ℕ → Type 0) → ((p : ℕ) → Q p → ⊥) → AtEach (λ p old new. IsCountedWithin (most_reads (live_in old.engine.part) (values_in (share (length es) p window))) (Q p) (eyes.counts old.engine.part.main) (eyes.counts new.engine.part.main)) 0 es es
  nothing_counted Q never = at_each-same (λ p old new. IsCountedWithin (most_reads (live_in old.engine.part) (values_in (share (length es) p window))) (Q p) (eyes.counts old.engine.part.main) (eyes.counts new.engine.part.main)) 0 es
      (λ p e. record { faults = omega arith; cause = λ cause. absurd (never p cause); reads = omega arith })
