-- What a call keeps that moves documents by jobs: of a part, and of the jobs of it that are out.
use Rattle.std.specs.Prelude.{◌≡◌, ◌+◌, ◌^◌, ◌⊎◌, ℕ, false, List, [], Option, None, Result, IfErr, IsErrOf, OnErr, OnOk}
use Rattle.tc_list.specs.declared.policy.Policy.{Policy}
use Rattle.tc_part.specs.FilesOut.{LogIsOut, OnlyDevicesOut, TellsLogs}
use Rattle.tc_part_model.specs.Meaning.{IsPart}
use Rattle.tc_part_model.specs.PartState.{PartState, Told, told}
use Rattle.tc_part_model.specs.PartView.{PartView}
use Rattle.tc_running.specs.Jobs.{JobsState}
use Rattle.tc_store.specs.Counted.{Counts}
use Rattle.tc_store.specs.declared.file_name.FileName.{FileName}
use Rattle.tc_store.specs.Disk.{Disk}
use Rattle.tc_store.specs.DiskFile.{DiskFile}
use Rattle.tc_work.specs.declared.fault.EngineFault.{EngineFault}
use Rattle.tc_work.specs.declared.fault.EngineFault.TheVariants as engine
use Rattle.tc_work.specs.Damage.{IsPartDamage}
use Rattle.tc_work.specs.Failing.{FailsKeeping}
use Rattle.tc_work.specs.Faults.{IfDamaged}
use Rattle.tc_work.specs.JobsOut.{AreOut, IsPickedOut, WorkFor, watched_part}
use Rattle.tc_work.specs.Settling.{HasOnlyMoved, IsListedBy, IsWatchedIn, MaySettle, MomentsStay, MomentsStayOver, NextLogs, StaysStored, TellsFiles}

-- ---- what is looked at

-- a part, and the jobs of it that are out
pub record Working (S D F W : Type 0) : Type 0 where
  pub part : PartState S D F W
  pub jobs : JobsState F D W

-- what a store, its devices, its files and its watches tell, by its traits
pub record Eyes (S D F W : Type 0) : Type 0 where
  pub disks : S → List Disk
  pub history : D → List DiskFile
  pub content : F → Option (List ℕ)
  pub name_of : D → FileName
  pub size : F → ℕ
  pub counts : W → Counts

abbrev pub eyes : {S D F W : Type 0} → (S → List Disk) → (D → List DiskFile) → (F → Option (List ℕ)) → (D → FileName) → (F → ℕ) → (W → Counts) → Eyes S D F W
eyes disks history content name_of size counts = record { disks = disks; history = history; content = content; name_of = name_of; size = size; counts = counts }

-- what a part tells, by the traits of its store
abbrev pub told_part : {S D F W : Type 0} → Eyes S D F W → PartState S D F W → Told
told_part eyes part = told eyes.disks eyes.history eyes.content part

abbrev pub beside : {S D F W : Type 0} → PartState S D F W → JobsState F D W → Working S D F W
beside part jobs = record { part = part; jobs = jobs }

abbrev pub told_by : {S D F W : Type 0} → Eyes S D F W → Working S D F W → Told
told_by e w = told e.disks e.history e.content w.part

-- the jobs work for this
abbrev pub works_by : {S D F W : Type 0} → Eyes S D F W → Working S D F W → PartView → Type 0
works_by e w = WorkFor e.content e.history e.name_of w.jobs

-- exactly these jobs of the part are out
abbrev pub IsOutBy : {S D F W : Type 0} → Eyes S D F W → Working S D F W → Type 0
IsOutBy e w = AreOut e.disks e.history e.content e.name_of w.part w.jobs

-- the policy picked the run whose merge is out
abbrev pub IsPickedBy : {S D F W : Type 0} → Eyes S D F W → Policy → Working S D F W → Type 0
IsPickedBy e policy w = IsPickedOut policy e.size w.part.list w.part.merging

-- ---- what is kept

-- Whatever it answers, the jobs that are out are those of the part, and nothing changed but where documents are. A store that tells
-- nothing goes on so, no file is out but those of devices, and no watch counts fewer faults; a call that failed for one counted one
-- more.
pub record KeepsJobs {S D F W : Type 0} (e : Eyes S D F W) (Failed : Type 0) (old new : Working S D F W) : Type 0 where
  pub jobs : IsOutBy e new
  pub moved : HasOnlyMoved old.part new.part
  pub untold : e.disks old.part.store ≡ [] → e.disks new.part.store ≡ []
  pub tells : TellsLogs (told_by e old) → TellsLogs (told_by e new)
  pub devices : TellsLogs (told_by e old) → OnlyDevicesOut (told_by e old) → OnlyDevicesOut (told_by e new)
  pub watched : IsWatchedIn e.counts Failed (watched_part old.part old.jobs) (watched_part new.part new.jobs)

-- It ended well: the same is stored.
pub record MovesWell {S D F W : Type 0} (e : Eyes S D F W) (old new : Working S D F W) : Type 0 where
  pub sound : new.part.failed ≡ false
  pub stays : StaysStored (works_by e old) (works_by e new) (told_by e old) (told_by e new)
  pub log_out : LogIsOut (told_by e old) → LogIsOut (told_by e new)

-- What is listed comes of flushes, and of merges that the policy picked, as it did the one that is out then.
pub record ListsPicked {S D F W : Type 0} (e : Eyes S D F W) (policy : Policy) (old new : Working S D F W) : Type 0 where
  pub listed : IsListedBy policy e.size old.part new.part
  pub picked : IsPickedBy e policy new

-- It failed, and keeps what was stored.
abbrev pub FailsMoving : {S D F W : Type 0} → Eyes S D F W → Working S D F W → Working S D F W → Type 0
FailsMoving e old new = FailsKeeping (works_by e old) (works_by e new) (told_by e old) (told_by e new)

-- ---- a call

-- The part has not failed, and it has its own files, and the jobs that are out.
pub record MayMove {S D F W : Type 0} (e : Eyes S D F W) (w : Working S D F W) : Type 0 where
  pub sound : w.part.failed ≡ false
  pub ready : MaySettle (told_by e w)
  pub jobs : IsOutBy e w

-- no damage is told, where the files are told and the jobs work for the part
abbrev pub TellsNoDamage : {S D F W : Type 0} → Eyes S D F W → Result (Unit {0}) EngineFault → Working S D F W → Type 0
TellsNoDamage e result w = (p : PartView) → IsPart (told_by e w) p → TellsFiles (told_by e w) → works_by e w p → IfErr result (λ fault. IfDamaged fault (λ damage. ⊥))

-- A call that begins jobs, or lists what they make. At each moment of it a stop leaves what was stored. The active log stays, and
-- so does the sealed one, unless its table was flushed. Damage is that of the part as it is left; where the files are told there is
-- none.
pub record Moves {S D F W : Type 0} (e : Eyes S D F W) (result : Result (Unit {0}) EngineFault) (old new : Working S D F W) : Type 0 where
  pub keeps : KeepsJobs e (IsErrOf result engine.Disk) old new
  pub well : OnOk result (MovesWell e old new)
  pub failed : OnErr result (FailsMoving e old new)
  pub moments : MomentsStay (works_by e old) (told_by e old) (e.disks new.part.store)
  pub logs : (new.part.log ≡ old.part.log) × (new.part.generation ≡ old.part.generation)
  pub sealed_log : (new.part.sealed_log ≡ old.part.sealed_log) ⊎ (new.part.sealed_log ≡ None)
  pub damaged : IfErr result (λ fault. IfDamaged fault (IsPartDamage e.content e.history new.part))
  pub undamaged : TellsNoDamage e result old
  pub unspent : IsErrOf result engine.Spent → ⊥

-- A call that may seal the active table besides, once: then the next log takes the place of the active one. `Spent` comes only
-- where no generation is left for it, and leaves the log.
pub record MovesOver {S D F W : Type 0} (e : Eyes S D F W) (result : Result (Unit {0}) EngineFault) (old new : Working S D F W) : Type 0 where
  pub keeps : KeepsJobs e (IsErrOf result engine.Disk) old new
  pub well : OnOk result (MovesWell e old new)
  pub failed : OnErr result (FailsMoving e old new)
  pub moments : MomentsStayOver (works_by e old) (told_by e old) (e.history new.part.log.device) (e.disks new.part.store)
  pub next_log : (p : PartView) → IsPart (told_by e old) p → works_by e old p → new.part.generation ≡ old.part.generation + 1 → NextLogs p.part new.part.generation (e.history new.part.log.device)
  pub untold_log : e.disks old.part.store ≡ [] → new.part.generation ≡ old.part.generation + 1 → e.history new.part.log.device ≡ []
  pub damaged : IfErr result (λ fault. IfDamaged fault (IsPartDamage e.content e.history new.part))
  pub undamaged : TellsNoDamage e result old
  pub spent : IsErrOf result engine.Spent → old.part.generation + 1 ≡ 2 ^ 63
  pub unmoved : IsErrOf result engine.Spent → new.part.generation ≡ old.part.generation
  pub log_out_spent : IsErrOf result engine.Spent → LogIsOut (told_by e old) → LogIsOut (told_by e new)
