-- What comes of the share of a window that an engine gets: what a call of its window promises.
use Rattle.std.specs.Prelude.{◌≡◌, ◌≤◌, ◌+◌, ◌^◌, false, true, List, [], map, Result, IfErr, IfOk, IsErrOf, OnErr, OnOk}
use Rattle.std.specs.Map.{keys_of}
use Rattle.tc_model.specs.Keyed.{Keyed, values_in, on_value}
use Rattle.tc_request_model.specs.Rendered.{rendered}
use Rattle.tc_request_model.specs.Request.{Request}
use Rattle.tc_store.specs.DiskFile.{DiskFile}
use Rattle.tc_request_model.specs.Part.{part_writes_all}
use Rattle.tc_part.specs.FilesOut.{LogIsOut, OnlyDevicesOut}
use Rattle.tc_part.specs.Harms.{IsHarmIn}
use Rattle.tc_part_model.specs.Leaving.{LogMomentsLeaveStore}
use Rattle.tc_part_model.specs.Meaning.{IsPart, plain_of}
use Rattle.tc_part_model.specs.PartState.{AreTold, PartState, Told}
use Rattle.tc_part_model.specs.PartView.{PartView}
use Rattle.tc_route.specs.Answers.{answered}
use Rattle.tc_route.specs.Meaning.{rendered_in}
use Rattle.tc_route.specs.declared.placed.Placed.{Placed}
use Rattle.tc_run_model.specs.Kinds.{AreRenderedOfKinds}
use Rattle.tc_running.specs.Jobs.{JobsState}
use Rattle.tc_work.specs.Asked.{most_writes}
use Rattle.tc_work.specs.EngineState.{EngineState}
use Rattle.tc_work.specs.Failing.{HasFailedWith}
use Rattle.tc_work.specs.Faults.{IfDamage, IfDamaged}
use Rattle.tc_work.specs.JobsOut.{WorkFor}
use Rattle.tc_work.specs.Moving.{told_part, Eyes}
use Rattle.tc_work.specs.Reads.{live_in, most_reads, IsCountedWithin}
use Rattle.tc_work.specs.Settling.{MaySettle, TellsFiles}
use Rattle.tc_work.specs.Windowed.{staged_as, IsWindowed}
use Rattle.tc_work.specs.declared.fault.EngineFault.{EngineFault}
use Rattle.tc_work.specs.declared.fault.EngineFault.TheVariants.{Disk, Spent}
use Rattle.tc_keeper.specs.WithJobs.{IsStaffed}

-- nothing of a part changed but the tables and logs that a window writes, and what it counts
abbrev pub HasOnlyRun : {S D F W : Type 0} → PartState S D F W → PartState S D F W → Type 0
HasOnlyRun old new =
    new ≡ record old { main = new.main; active = new.active; staged = new.staged; log = new.log; taken = new.taken; live = new.live; writes = new.writes; failed = new.failed }

-- at each moment a stop leaves what is stored, without the writes of the share or with all of them
abbrev pub RanMoments : {S D F W : Type 0} → (PartState S D F W → Told) → (D → List DiskFile) → Keyed Request → EngineState S D F W → EngineState S D F W → Type 0
RanMoments tell moments rs old new =
    (p : PartView) → IsPart (tell old.part) p → LogMomentsLeaveStore (staged_as (part_writes_all old.part.limits (values_in rs) (plain_of (tell old.part) p)) p) (tell old.part) (moments new.part.log.device)

-- what an engine promises of a window, by its share and its answer, with any jobs that are out
pub record HasRun {S D F W : Type 0} (eyes : Eyes S D F W) (rs : Keyed Request) (old new : EngineState S D F W) (answer : Result (List Placed) EngineFault) : Type 0 where
  pub replies : (p : PartView) → IsPart (told_part eyes old.part) p → AreTold (told_part eyes old.part).components → IfOk answer (λ replies. rendered_in replies ≡ map (on_value rendered) (answered old.part.limits rs (plain_of (told_part eyes old.part) p)))
  pub places : IfOk answer (λ replies. keys_of (rendered_in replies) ≡ keys_of rs)
  pub kinds : IfOk answer (λ replies. AreRenderedOfKinds (values_in rs) (values_in (rendered_in replies)))
  pub windowed : OnOk answer ((p : PartView) → IsPart (told_part eyes old.part) p → IsWindowed old.part.limits (values_in rs) (told_part eyes old.part) p (told_part eyes new.part))
  pub sound : OnOk answer (new.part.failed ≡ false)
  pub same : HasOnlyRun old.part new.part
  pub unstaged : OnOk answer (new.part.staged ≡ old.part.staged)
  pub policy : new.policy ≡ old.policy
  pub staffed : (jobs : JobsState F D W) → IsStaffed eyes old jobs → IsStaffed eyes new jobs
  pub ready : OnOk answer (MaySettle (told_part eyes old.part) → MaySettle (told_part eyes new.part))
  pub tells : OnOk answer (TellsFiles (told_part eyes old.part) → TellsFiles (told_part eyes new.part))
  pub devices : OnlyDevicesOut (told_part eyes old.part) → OnlyDevicesOut (told_part eyes new.part)
  pub log_out : OnOk answer (LogIsOut (told_part eyes old.part) → LogIsOut (told_part eyes new.part))
  pub log_out_spent : IsErrOf answer Spent → LogIsOut (told_part eyes old.part) → LogIsOut (told_part eyes new.part)
  pub unwritten : OnOk answer ((p : PartView) → IsPart (told_part eyes old.part) p → part_writes_all old.part.limits (values_in rs) (plain_of (told_part eyes old.part) p) ≡ [] → new.part.log ≡ old.part.log)
  pub looked_up : OnOk answer (most_writes (values_in rs) ≡ 0 → new.part.log ≡ old.part.log)
  pub few_writes : OnOk answer (new.part.writes ≤ old.part.writes + most_writes (values_in rs))
  pub at_moments : RanMoments (told_part eyes) eyes.history rs old new
  pub failed : OnErr answer ((p : PartView) (jobs : JobsState F D W) → IsPart (told_part eyes old.part) p → WorkFor eyes.content eyes.history eyes.name_of jobs p
      → HasFailedWith (WorkFor eyes.content eyes.history eyes.name_of jobs) (part_writes_all old.part.limits (values_in rs) (plain_of (told_part eyes old.part) p)) (told_part eyes new.part) p)
  pub left : OnErr answer (new.part.failed ≡ true)
  pub harmed : IfErr answer (λ fault. IfDamage fault (λ file at bytes. IsHarmIn eyes.content old.part.list file at bytes))
  pub undamaged : (p : PartView) → IsPart (told_part eyes old.part) p → AreTold (told_part eyes old.part).components → IfErr answer (λ fault. IfDamaged fault (λ damage. ⊥))
  pub spent : IsErrOf answer Spent → 2 ^ 63 ≤ old.part.writes + most_writes (values_in rs)
  pub unspent : IsErrOf answer Spent → new.part.log ≡ old.part.log
  pub counted : IsCountedWithin (most_reads (live_in old.part) (values_in rs)) (IsErrOf answer Disk) (eyes.counts old.part.main) (eyes.counts new.part.main)
