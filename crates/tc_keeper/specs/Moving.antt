-- What a call leaves of an engine that moves its documents into files by jobs, and how it fails.
use Rattle.std.specs.Prelude.{◌≡◌, ◌≤◌, ◌<◌, ◌+◌, ◌^◌, ◌++◌, ℕ, true, false, [], ◌∷◌, None, is_some, length}
use Rattle.tc_component.specs.Loading.{ComponentState}
use Rattle.tc_jobs.specs.Lists.{file_names}
use Rattle.tc_list.specs.Intervals.{last_of}
use Rattle.tc_list.specs.Policies.{listed_least}
use Rattle.tc_log.specs.Layout.{empty_size}
use Rattle.tc_part.specs.FilesOut.{LogIsOut, OnlyDevicesOut, TellsLogs}
use Rattle.tc_part_model.specs.Meaning.{IsPart}
use Rattle.tc_part_model.specs.PartView.{PartView, store_of}
use Rattle.tc_store.specs.declared.file_name.FileName.TheVariants.{Component as component_name}
use Rattle.tc_work.specs.Damage.{IsPartDamage}
use Rattle.tc_work.specs.Failing.{HasFailedKeeping}
use Rattle.tc_work.specs.Faults.{AreOfFiles, IfDamaged}
use Rattle.tc_work.specs.JobsOut.{watched_part}
use Rattle.tc_work.specs.Moving.{Eyes}
use Rattle.tc_work.specs.Settling.{HasOnlyMoved, IsDue, IsListedBy, IsWatchedIn, MaySettle, MomentsStayOver, NextLogs, PicksNone, StoresStill, TellsFiles}
use Rattle.tc_work.specs.declared.fault.EngineFault.{EngineFault}
use Rattle.tc_work.specs.declared.fault.EngineFault.TheVariants.{Disk as disk_fault, Spent}
use Rattle.tc_keeper.specs.WithJobs.{told_of, works_of, WithJobs}

-- ---- an engine

-- Behind such a call that ended well: where the files are told it stores what it stored, and it may run on.
pub record HasStayed {S D F W : Type 0} (eyes : Eyes S D F W) (old new : WithJobs S D F W) : Type 0 where
  pub stores : (p : PartView) → IsPart (told_of eyes old) p → TellsFiles (told_of eyes old) → works_of eyes old p → StoresStill (works_of eyes new) (told_of eyes old) p (told_of eyes new)
  pub sound : new.engine.part.failed ≡ false
  pub ready : MaySettle (told_of eyes new)
  pub log_out : LogIsOut (told_of eyes old) → LogIsOut (told_of eyes new)
  pub untold : eyes.disks old.engine.part.store ≡ [] → eyes.disks new.engine.part.store ≡ []

-- Whether it ended well or not, nothing changed but where the documents are, and which jobs are out. No file is out but those of its
-- devices, at each moment a stop leaves what was stored, and a watch counted a fault where the call failed for one. That of a job
-- that is out counts as it went out with it.
pub record HasMoved {S D F W : Type 0} (eyes : Eyes S D F W) (Failed : Type 0) (old new : WithJobs S D F W) : Type 0 where
  pub moved : HasOnlyMoved old.engine.part new.engine.part
  pub policy : new.engine.policy ≡ old.engine.policy
  pub devices : TellsLogs (told_of eyes old) → OnlyDevicesOut (told_of eyes old) → OnlyDevicesOut (told_of eyes new)
  pub at_moments : MomentsStayOver (works_of eyes old) (told_of eyes old) (eyes.history new.engine.part.log.device) (eyes.disks new.engine.part.store)
  pub next_log : (p : PartView) → IsPart (told_of eyes old) p → works_of eyes old p → new.engine.part.generation ≡ old.engine.part.generation + 1 → NextLogs p.part new.engine.part.generation (eyes.history new.engine.part.log.device)
  pub watched : IsWatchedIn eyes.counts Failed (watched_part old.engine.part old.jobs) (watched_part new.engine.part new.jobs)

-- Where that was due, the table is sealed, and the next log has no frame; else tables and log are as they were. A table that is
-- sealed has its flush out. What is listed comes of flushes, and of merges that the policy picked; it picks none where none is out.
pub record IsSettled {S D F W : Type 0} (eyes : Eyes S D F W) (size : D → ℕ) (old new : WithJobs S D F W) : Type 0 where
  pub emptied : IsDue size old.engine.part → (new.engine.part.active ≡ []) × (size new.engine.part.log.device ≡ empty_size) × (new.engine.part.generation ≡ old.engine.part.generation + 1)
  pub stays : (IsDue size old.engine.part → ⊥) → (new.engine.part.active ≡ old.engine.part.active) × (new.engine.part.log ≡ old.engine.part.log) × (new.engine.part.generation ≡ old.engine.part.generation) × (new.engine.part.sealed ≡ old.engine.part.sealed) × (new.jobs.flush ≡ old.jobs.flush)
  pub short : empty_size < old.engine.part.memory → size new.engine.part.log.device < old.engine.part.memory
  pub none : new.jobs.merge ≡ None → PicksNone old.engine.policy new.engine.part.list
  pub outside : new.engine.part.generation ≤ last_of new.engine.part.list + 2
  pub listed : IsListedBy old.engine.policy eyes.size old.engine.part new.engine.part
  pub few : listed_least old.engine.policy ≤ 9 → length new.engine.part.list ≤ 8
  pub flushing : new.engine.part.flushing ≡ is_some new.engine.part.sealed

-- A log without a frame stays, and all else with it where no table is sealed. Else what both tables hold is in components, no
-- table is left, and the log has no frame.
pub record IsFlushed {S D F W : Type 0} (eyes : Eyes S D F W) (size : D → ℕ) (old new : WithJobs S D F W) : Type 0 where
  pub nothing : size old.engine.part.log.device ≤ empty_size → old.engine.part.sealed ≡ None → new ≡ old
  pub written : empty_size < size old.engine.part.log.device → (new.engine.part.active ≡ []) × (new.engine.part.sealed_log ≡ None) × (new.engine.part.generation ≡ old.engine.part.generation + 1)
  pub unwritten : size old.engine.part.log.device ≤ empty_size → (new.engine.part.active ≡ old.engine.part.active) × (new.engine.part.log ≡ old.engine.part.log) × (new.engine.part.generation ≡ old.engine.part.generation)
  pub listed : IsListedBy old.engine.policy eyes.size old.engine.part new.engine.part
  pub empty : size new.engine.part.log.device ≤ empty_size
  pub none_sealed : (new.engine.part.sealed ≡ None) × (new.engine.part.flushing ≡ false)
  pub emptied : (p : PartView) → IsPart (told_of eyes old) p → TellsFiles (told_of eyes old) → works_of eyes old p → new.engine.part.active ≡ []
  -- where no table was sealed, and there was room for one more component, nothing is merged meanwhile
  pub flushed : empty_size < size old.engine.part.log.device → old.engine.part.sealed ≡ None → length old.engine.part.list < 8 → (c : ComponentState F) × (new.engine.part.list ≡ old.engine.part.list ++ c ∷ [])

-- It failed by this fault, and its files keep what was stored. Damage is that of its part as it is left, and where the files are told
-- there is none.
pub record HasFailedMoving {S D F W : Type 0} (eyes : Eyes S D F W) (why : EngineFault) (old new : WithJobs S D F W) : Type 0 where
  pub failed : new.engine.part.failed ≡ true
  pub kept : (p : PartView) → IsPart (told_of eyes old) p → TellsFiles (told_of eyes old) → works_of eyes old p → HasFailedKeeping (works_of eyes new) (told_of eyes new) p.part (store_of p) None
  pub damaged : IfDamaged why (IsPartDamage eyes.content eyes.history new.engine.part)
  pub undamaged : (p : PartView) → IsPart (told_of eyes old) p → TellsFiles (told_of eyes old) → works_of eyes old p → IfDamaged why (λ damage. ⊥)
  pub spent : why ≡ Spent → old.engine.part.generation + 1 ≡ 2 ^ 63
  pub unmoved : why ≡ Spent → new.engine.part.generation ≡ old.engine.part.generation
  pub log_out_spent : why ≡ Spent → LogIsOut (told_of eyes old) → LogIsOut (told_of eyes new)

-- ---- what a call leaves of an engine

pub record Settles {S D F W : Type 0} (eyes : Eyes S D F W) (size : D → ℕ) (old new : WithJobs S D F W) : Type 0 where
  pub stays : HasStayed eyes old new
  pub settled : IsSettled eyes size old new
  pub moved : HasMoved eyes ⊥ old new

pub record FailsSettling {S D F W : Type 0} (eyes : Eyes S D F W) (why : EngineFault) (old new : WithJobs S D F W) : Type 0 where
  pub fails : HasFailedMoving eyes why old new
  pub moved : HasMoved eyes (why ≡ disk_fault) old new

pub record Flushes {S D F W : Type 0} (eyes : Eyes S D F W) (size : D → ℕ) (old new : WithJobs S D F W) : Type 0 where
  pub stays : HasStayed eyes old new
  pub flushed : IsFlushed eyes size old new
  pub moved : HasMoved eyes ⊥ old new

-- Where nothing is merged meanwhile damage is that the listed components do not go together with the table, or with the one that
-- the flush made, or is in the file of that.
pub record FailsFlushing {S D F W : Type 0} (eyes : Eyes S D F W) (why : EngineFault) (old new : WithJobs S D F W) : Type 0 where
  pub fails : HasFailedMoving eyes why old new
  pub damaged_alone : old.engine.part.sealed ≡ None → length old.engine.part.list < 8 → IfDamaged why (AreOfFiles (file_names old.engine.part.list) (component_name old.engine.part.generation old.engine.part.generation))
  pub moved : HasMoved eyes (why ≡ disk_fault) old new

-- ---- all engines, one after the other

-- the call of the engine p failed: those of lower ones are done, and greater ones stay as they are
abbrev pub StopsAt : {E : Type 0} → ℕ → (E → E → Type 0) → (E → E → Type 0) → ℕ → E → E → Type 0
StopsAt p Done Stopped q old new = (q < p → Done old new) × (q ≡ p → Stopped old new) × (p < q → new ≡ old)
