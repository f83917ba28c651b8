-- What a window leaves of an engine: the writes that it committed, and what stays.
use Rattle.std.specs.Prelude.{◌≡◌, ◌≤◌, ◌+◌, ◌^◌, true, List, [], All, length, map, Result, IfErr, IfOk}
use Rattle.tc_log.specs.Writes.{IsWrite}
use Rattle.tc_log.specs.declared.write.Write.{Write}
use Rattle.tc_machine.specs.Logs.{kept_write}
use Rattle.tc_machine.specs.Writes.{IsStorableWrite}
use Rattle.tc_model.specs.Keyed.{Keyed, on_value, values_in}
use Rattle.tc_part.specs.FilesOut.{LogIsOut, OnlyDevicesOut, TellsLogs}
use Rattle.tc_part_model.specs.Leaving.{LogMomentsLeaveStore}
use Rattle.tc_part_model.specs.Meaning.{IsPart, plain_of}
use Rattle.tc_part_model.specs.PartState.{AreTold, PartState}
use Rattle.tc_part_model.specs.PartView.{PartView}
use Rattle.tc_request_model.specs.Part.{part_writes_all}
use Rattle.tc_request_model.specs.Rendered.{rendered}
use Rattle.tc_request_model.specs.Request.{Request}
use Rattle.tc_route.specs.Answers.{answered}
use Rattle.tc_route.specs.Meaning.{rendered_in}
use Rattle.tc_route.specs.declared.placed.Placed.{Placed}
use Rattle.tc_running.specs.Jobs.{JobsState}
use Rattle.tc_work.specs.Asked.{most_writes}
use Rattle.tc_work.specs.EngineState.{EngineState}
use Rattle.tc_work.specs.Failing.{HasFailedWith}
use Rattle.tc_work.specs.Faults.{IfDamaged}
use Rattle.tc_work.specs.JobsOut.{WorkFor}
use Rattle.tc_work.specs.Moving.{beside, told_part, Eyes, IsOutBy}
use Rattle.tc_work.specs.Settling.{MaySettle, TellsFiles}
use Rattle.tc_work.specs.Windowed.{staged_as, IsWindowed}
use Rattle.tc_work.specs.declared.fault.EngineFault.{EngineFault}

-- where its files are told, the replies are those of the plain store that the part stands for
abbrev pub AnswersPlainly : {S D F W : Type 0} → Eyes S D F W → Keyed Request → PartState S D F W → Result (List Placed) EngineFault → Type 0
AnswersPlainly eyes rs old result =
    (p : PartView) → IsPart (told_part eyes old) p → AreTold (told_part eyes old).components → IfOk result (λ replies. rendered_in replies ≡ map (on_value rendered) (answered old.limits rs (plain_of (told_part eyes old) p)))

-- where the files of listed components are told no damage is met
abbrev pub MeetsNoDamage : {S D F W A : Type 0} → Eyes S D F W → PartState S D F W → Result A EngineFault → Type 0
MeetsNoDamage eyes old result = (p : PartView) → IsPart (told_part eyes old) p → AreTold (told_part eyes old).components → IfErr result (λ fault. IfDamaged fault (λ damage. ⊥))

-- at each moment a stop leaves what is stored, without the writes of the window or with all of them
abbrev pub LeavesAtMoments : {S D F W : Type 0} → Eyes S D F W → List Request → PartState S D F W → PartState S D F W → Type 0
LeavesAtMoments eyes rs old new =
    (p : PartView) → IsPart (told_part eyes old) p → LogMomentsLeaveStore (staged_as (part_writes_all old.limits rs (plain_of (told_part eyes old) p)) p) (told_part eyes old) (eyes.history new.log.device)

-- nothing of a part changed but the tables and the log that a window writes, and what it counts
abbrev pub HasOnlyCommitted : {S D F W : Type 0} → PartState S D F W → PartState S D F W → Type 0
HasOnlyCommitted old new = new ≡ record old { main = new.main; active = new.active; log = new.log; taken = new.taken; live = new.live; writes = new.writes }

-- The part is the one in which the writes of the window are committed, and may go on as before. The log stays as it is where no
-- write is made, as one of lookups alone makes none.
pub record Commits {S D F W : Type 0} (eyes : Eyes S D F W) (rs : List Request) (old new : PartState S D F W) : Type 0 where
  pub windowed : (p : PartView) → IsPart (told_part eyes old) p → IsWindowed old.limits rs (told_part eyes old) p (told_part eyes new)
  pub writes : (p : PartView) → IsPart (told_part eyes old) p → new.writes ≡ old.writes + length (part_writes_all old.limits rs (plain_of (told_part eyes old) p))
  pub few_writes : new.writes ≤ old.writes + most_writes rs
  pub ready : MaySettle (told_part eyes old) → MaySettle (told_part eyes new)
  pub tells : TellsFiles (told_part eyes old) → TellsFiles (told_part eyes new)
  pub log_out : LogIsOut (told_part eyes old) → LogIsOut (told_part eyes new)
  pub unwritten : (p : PartView) → IsPart (told_part eyes old) p → part_writes_all old.limits rs (plain_of (told_part eyes old) p) ≡ [] → new.log ≡ old.log
  pub looked_up : most_writes rs ≡ 0 → new.log ≡ old.log

-- The frame that a window committed of an engine: the writes of its share, which may be stored, each as a log holds it. So many
-- writes more were made.
pub record HasFramed {S D F W : Type 0} (eyes : Eyes S D F W) (rs : Keyed Request) (old new : EngineState S D F W) (frame : List Write) : Type 0 where
  pub writes : (p : PartView) → IsPart (told_part eyes old.part) p → frame ≡ map kept_write (part_writes_all old.part.limits (values_in rs) (plain_of (told_part eyes old.part) p))
  pub storable : (p : PartView) → IsPart (told_part eyes old.part) p → All IsStorableWrite (part_writes_all old.part.limits (values_in rs) (plain_of (told_part eyes old.part) p))
  pub stored : All IsWrite frame
  pub count : new.part.writes ≡ old.part.writes + length frame

-- The jobs that are out stay those of the engine, no file is out but those of the part's devices, and those of its logs go on to tell.
pub record KeepsOut {S D F W : Type 0} (eyes : Eyes S D F W) (old new : EngineState S D F W) : Type 0 where
  pub policy : new.policy ≡ old.policy
  pub jobs : (jobs : JobsState F D W) → IsOutBy eyes (beside old.part jobs) → IsOutBy eyes (beside new.part jobs)
  pub devices : OnlyDevicesOut (told_part eyes old.part) → OnlyDevicesOut (told_part eyes new.part)
  pub tells : TellsLogs (told_part eyes old.part) → TellsLogs (told_part eyes new.part)

-- The part failed, and keeps what was stored, without the writes of the window or with all of them.
pub record FailsWindow {S D F W : Type 0} (eyes : Eyes S D F W) (rs : List Request) (old new : PartState S D F W) : Type 0 where
  pub failed : (p : PartView) (jobs : JobsState F D W) → IsPart (told_part eyes old) p → WorkFor eyes.content eyes.history eyes.name_of jobs p
      → HasFailedWith (WorkFor eyes.content eyes.history eyes.name_of jobs) (part_writes_all old.limits rs (plain_of (told_part eyes old) p)) (told_part eyes new) p
  pub left : new ≡ record old { main = new.main; active = new.active; staged = new.staged; taken = new.taken; live = new.live; log = new.log; failed = true }

-- Writes are spent: there would be more than 2^63 - 1 of this run, and none was made.
pub record HasSpentWrites {S D F W : Type 0} (eyes : Eyes S D F W) (rs : List Request) (old new : PartState S D F W) : Type 0 where
  pub most : 2 ^ 63 ≤ old.writes + most_writes rs
  pub unspent : new.log ≡ old.log
  pub log_out : LogIsOut (told_part eyes old) → LogIsOut (told_part eyes new)
