-- How an engine ends, with the jobs that were out.
use Rattle.std.specs.Prelude.{◌≡◌, ◌<◌, ◌≤◌, ◌-◌, ◌⊎◌, ℕ, false, true, List, [], ◌∷◌, length, Ok, Option, Some, None, Result, IfErr, IsErrOf, OnOk, option_map}
use Rattle.tc_list.specs.Policies.{listed_least}
use Rattle.tc_list.specs.declared.policy.Policy.{Policy}
use Rattle.tc_log.specs.Layout.{empty_size}
use Rattle.tc_lsm_model.specs.Contents.{Content, Partition}
use Rattle.tc_plain_model.specs.Writes.{Pairs, Write}
use Rattle.tc_part.specs.Closing.{brought_home}
use Rattle.tc_part.specs.FilesOut.{LogIsOut, OnlyDevicesOut, TellsLogs}
use Rattle.tc_part_model.specs.Leaving.{FailedMomentsLeaveStore, KeepsStore, OpensAs}
use Rattle.tc_part_model.specs.Meaning.{HasFailedAs, IsPart}
use Rattle.tc_part_model.specs.PartState.{PartState, Told}
use Rattle.tc_part_model.specs.PartView.{PartView, store_of}
use Rattle.tc_running.specs.Jobs.{JobsState}
use Rattle.tc_store.specs.declared.file_name.FileName.{FileName}
use Rattle.tc_store.specs.declared.file_name.FileName.TheVariants.{Log}
use Rattle.tc_store.specs.Disk.{Disk, is_out, IsThere}
use Rattle.tc_store.specs.Moments.{IfTold}
use Rattle.tc_work.specs.declared.fault.EngineFault.{EngineFault}
use Rattle.tc_work.specs.declared.fault.EngineFault.TheVariants as engine
use Rattle.tc_work.specs.Damage.{HasMetDamage}
use Rattle.tc_work.specs.Failing.{HasFailedKeeping}
use Rattle.tc_work.specs.Faults.{IfDamaged}
use Rattle.tc_work.specs.JobsOut.{watched_part}
use Rattle.tc_work.specs.Moving.{Eyes, Working, told_by, works_by, TellsNoDamage}
use Rattle.tc_work.specs.Settling.{IsWatchedIn, MomentsLeavePairs, PicksNone}

-- No job is out, and if it has not failed the policy picks none of what is listed.
pub record HasNothingToDo {S D F W : Type 0} (policy : Policy) (part : PartState S D F W) (jobs : JobsState F D W) : Type 0 where
  pub flush : jobs.flush ≡ None
  pub merge : jobs.merge ≡ None
  pub none : part.failed ≡ false → PicksNone policy part.list

-- The files open as so few components that the policy picks none, and as one log of this length. Where it has no frame it has no
-- write.
pub record EndsSmall (part : Partition) (policy : Policy) (bytes : ℕ) (disks : List Disk) : Type 0 where
  pub list : List Content
  pub writes : List Write
  pub opens : IfTold disks (OpensAs part list (writes ∷ []) bytes)
  pub few : (length list < listed_least policy) ⊎ (length list < 2)
  pub unwritten : bytes ≤ empty_size → writes ≡ []

-- What a part that had failed kept for the jobs that were out, it keeps for those that are out then, and each moment of its store
-- left it.
abbrev pub GivesBack : (PartView → Type 0) → (PartView → Type 0) → PartView → Option (List Write) → Told → Told → Type 0
GivesBack Works WorksNow p frame old new = HasFailedAs old p frame → Works p → HasFailedAs new p frame × WorksNow p × FailedMomentsLeaveStore p frame old new.disks

-- A part was closed, with the jobs that were out: this store and these watches are left of it. Of one that had not failed a stop
-- leaves what was stored, from then on and at each moment of the call, and of one that had what it kept. Where there was nothing to
-- do the devices of the logs came home, and no more was done.
pub record Finishes {S D F W : Type 0} (e : Eyes S D F W) (size_of : D → ℕ) (policy : Policy) (old : Working S D F W) (result : Result (Unit {0}) EngineFault) (store : S) (main_watch flush_watch merge_watch read_watch : W) : Type 0 where
  pub brought_in : TellsLogs (told_by e old) → OnlyDevicesOut (told_by e old) → IfTold (e.disks store) (λ disk. (name : FileName) → is_out (disk name) ≡ false)
  pub log : OnOk result (LogIsOut (told_by e old) → IfTold (e.disks store) (λ disk. IsThere (disk (Log old.part.generation))))
  pub kept : (p : PartView) → IsPart (told_by e old) p → works_by e old p → IfTold (e.disks store) (KeepsStore p.part (store_of p) None)
  pub failed : (part : Partition) (pairs : Pairs) (frame : Option (List Write)) → HasFailedKeeping (works_by e old) (told_by e old) part pairs frame → IfTold (e.disks store) (KeepsStore part pairs frame)
  pub opens : (p : PartView) → IsPart (told_by e old) p → works_by e old p → OnOk result (EndsSmall p.part policy (size_of old.part.log.device) (e.disks store))
  pub moments : (p : PartView) → IsPart (told_by e old) p → works_by e old p → MomentsLeavePairs p.part (store_of p) (told_by e old) (e.disks store)
  pub failed_moments : (part : Partition) (pairs : Pairs) (frame : Option (List Write)) (has : HasFailedKeeping (works_by e old) (told_by e old) part pairs frame) → FailedMomentsLeaveStore has.view frame (told_by e old) (e.disks store)
  pub outcome : old.part.failed ≡ true → result ≡ Ok tt
  pub damaged : IfErr result (λ fault. IfDamaged fault (HasMetDamage e.content e.history old.part))
  pub undamaged : TellsNoDamage e result old
  pub unspent : IsErrOf result engine.Spent → ⊥
  pub idle : HasNothingToDo policy old.part old.jobs → OnOk result ((main_watch ≡ old.part.main) × (Some flush_watch ≡ old.part.flusher) × (Some merge_watch ≡ old.part.merger))
  pub home : HasNothingToDo policy old.part old.jobs → OnOk result (e.disks store ≡ brought_home (Log old.part.generation) (e.history old.part.log.device) (option_map (λ moments. (Log (old.part.generation - 1), moments)) (told_by e old).sealed_log) (e.disks old.part.store))
  pub listed : HasNothingToDo policy old.part old.jobs → (p : PartView) → IsPart (told_by e old) p → OnOk result (IfTold (e.disks store) (OpensAs p.part p.list (p.active.writes ∷ []) (size_of old.part.log.device)))
  pub watched : IsWatchedIn e.counts (IsErrOf result engine.Disk) (watched_part old.part old.jobs) (record old.part { main = main_watch; flusher = Some flush_watch; merger = Some merge_watch })
  pub reader : Some read_watch ≡ old.part.reader
