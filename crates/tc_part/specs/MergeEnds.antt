-- What becomes of a part when what is left of a merge is handed back.
use Rattle.std.specs.Prelude.{◌≡◌, ◌+◌, ◌-◌, ◌⊎◌, ℕ, true, false, List, [], map, take, drop, Option, Some, None, Result, Ok, Err}
use Rattle.tc_model.specs.Dictionary.{Extends}
use Rattle.tc_model.specs.Document.{Name}
use Rattle.tc_store.specs.declared.damage.Damage.{Damage}
use Rattle.tc_store.specs.declared.file_name.FileName.{FileName}
use Rattle.tc_store.specs.Counted.{Counts}
use Rattle.tc_store.specs.Disk.{Disk, home as at_home}
use Rattle.tc_store.specs.DiskFile.{DiskFile}
use Rattle.tc_store.specs.Moments.{IfTold, LeavesAt}
use Rattle.tc_store.specs.StoreCalls.{comes_home, frozen_entry, RemovesSome}
use Rattle.tc_component.specs.Loading.{ComponentState}
use Rattle.tc_component.specs.Rows.{IsComponent}
use Rattle.tc_component.specs.Spelling.{name_of}
use Rattle.tc_list.specs.Runs.{in_run}
use Rattle.tc_list.specs.declared.run.Run.{Run}
use Rattle.tc_merge.specs.declared.fault.MergeFault.{MergeFault}
use Rattle.tc_merge.specs.Merging.{newest_names}
use Rattle.tc_plain_model.specs.Writes.{Write}
use Rattle.tc_lsm_model.specs.Merges.{Run as Neighbours}
use Rattle.tc_machine.specs.Components.{file_of}
use Rattle.tc_machine.specs.State.{Merging}
use Rattle.tc_machine.specs.Steps.{IsShutOrHas}
use Rattle.tc_jobs.specs.Faults.{of_merge}
use Rattle.tc_jobs.specs.Listing.{FitsFor, IsListed, IsReadBack, IsUnlisted, in_place}
use Rattle.tc_jobs.specs.Lists.{FirstExtends}
use Rattle.tc_part_model.specs.Calls.{HasMade}
use Rattle.tc_part_model.specs.Changes.{merged_part}
use Rattle.tc_part_model.specs.Leaving.{FailedMomentsLeaveStore}
use Rattle.tc_part_model.specs.Meaning.{HasFailedAs, IsPart}
use Rattle.tc_part_model.specs.PartState.{AreTold, PartState, Told, told}
use Rattle.tc_part_model.specs.PartView.{PartView, store_of}
use Rattle.tc_part.specs.declared.fault.PartFault.{PartFault}
use Rattle.tc_part.specs.Closing.{HasFailedEither, HasFailedWhole}
use Rattle.tc_part.specs.Faults.{IfDamaged, of_job}
use Rattle.tc_part.specs.JobEnds.{IsLeftUnlisted}
use Rattle.tc_part.specs.JobHeads.{merged_head}
use Rattle.tc_part.specs.OwnFiles.{KeepsOwnFiles}
use Rattle.tc_part.specs.Reads.{ReadsTwice}

-- the positions of the first and of the last of some neighbours
abbrev pub positions : Option Neighbours → Run
positions None = record { first = 0; last = 0 }
positions (Some n) = record { first = n.first; last = n.first + n.length - 1 }

-- the run of the merge that is out
abbrev pub run_out : {S D F W : Type 0} → PartState S D F W → Run
run_out p = positions p.merging

-- the name of what the merge of a run makes
abbrev pub merged_name : {S D F W : Type 0} → Run → PartState S D F W → FileName
merged_name run p = name_of (merged_head p.number p.count run p.list)

-- names that go on from those before a run, and from which those behind it go on
abbrev pub AreBetween : {F : Type 0} → List Name → Run → List (ComponentState F) → Type 0
AreBetween names run list = Extends names (newest_names [] (take run.first list)) × FirstExtends names (drop (run.last + 1) list)

-- the component that the device has is listed in place of the run, over every store
abbrev pub HasReplaced : {S D F W : Type 0} → (F → Option (List ℕ)) → (F → FileName) → List DiskFile → Run → PartState S D F W → List (ComponentState F) → Type 0
HasReplaced content name device run old list =
    IsListed (IsReadBack content name (merged_head old.number old.count run old.list) (merged_name run old) device) (FitsFor run old.list) (in_place run old.list) list

-- the file of the component is still, and files of the run are removed: those of which nobody else has a share
abbrev pub HasRemovedRun : {S D F W : Type 0} → (S → List Disk) → (F → FileName) → List DiskFile → Run → PartState S D F W → List Disk → Type 0
HasRemovedRun disks name device run old new = RemovesSome (map (λ c. name c.file) (in_run run old.list)) (comes_home (merged_name run old) frozen_entry device (disks old.store)) new

-- nothing is listed, and the file of the device is at home, still or as it is
abbrev pub IsMergeUnlisted : {S D F W : Type 0} → (S → List Disk) → List DiskFile → Run → PartState S D F W → PartState S D F W → Type 0
IsMergeUnlisted disks device run old new = IsLeftUnlisted disks (merged_name run old) device old new

-- the component is listed, and some files of its run are removed
pub record IsMergeRemoving {S D F W : Type 0} (content : F → Option (List ℕ)) (name : F → FileName) (disks : S → List Disk) (device : List DiskFile) (run : Run) (old new : PartState S D F W) : Type 0 where
  pub listed : HasReplaced content name device run old new.list
  pub same : new ≡ record old { store = new.store; main = new.main; list = new.list; failed = new.failed }
  pub removed : HasRemovedRun disks name device run old (disks new.store)

-- the file of the device is damaged, or the names of the component that it is do not go together with those on both sides of
-- the run
abbrev pub IsMergeDamage : {S D F W : Type 0} → (F → Option (List ℕ)) → (F → FileName) → ℕ → List DiskFile → Run → PartState S D F W → Damage → Type 0
IsMergeDamage content name size device run old =
    IsUnlisted (IsReadBack content name (merged_head old.number old.count run old.list) (merged_name run old) device) (FitsFor run old.list) (merged_head old.number old.count run old.list) size device

-- ---- what comes of the call

-- What is so of each part that this is, and of its merge that is out, if the device has what that makes.
abbrev pub OfMergeMade : Told → List DiskFile → (PartView → Type 0) → Type 0
OfMergeMade t device P = (p : PartView) (m : Merging) → IsPart t p → p.merge ≡ Some m → HasMade m.target t.disks device → P p

-- a stop finds the device shut, or with what the merge makes
abbrev pub LeavesMerge : Merging → List DiskFile → Type 0
LeavesMerge m device = IfTold device (LeavesAt (IsShutOrHas (IsComponent m.target)))

-- Over every store the component of the device is listed in place of the run, no merge is out, and files of the run are
-- removed, and no other. It is the part whose merge is listed, which stores what it stored.
pub record ListsMerge {S D F W : Type 0} (disks : S → List Disk) (moments : D → List DiskFile) (content : F → Option (List ℕ)) (name : F → FileName) (counts : W → Counts) (watch : W) (device : List DiskFile) (old new : PartState S D F W) : Type 0 where
  pub merged : OfMergeMade (told disks moments content old) device
      (λ p. AreTold (told disks moments content old).components → IfTold (disks old.store) (λ disk. IsPart (told disks moments content new) (merged_part p)) × (store_of (merged_part p) ≡ store_of p))
  pub listed : HasReplaced content name device (run_out old) old new.list
  pub same : new ≡ record old { store = new.store; main = new.main; merger = Some watch; merging = None; list = new.list }
  pub removed : HasRemovedRun disks name device (run_out old) old (disks new.store)
  pub own : KeepsOwnFiles (told disks moments content old) (told disks moments content new)
  pub reads : ReadsTwice (counts old.main) (counts new.main)

-- A part that had failed gets its device home and its watch back, and keeps what it stored, at each moment too.
pub record GivesMergeBack {S D F W : Type 0} (disks : S → List Disk) (moments : D → List DiskFile) (content : F → Option (List ℕ)) (watch : W) (device : List DiskFile) (result : Result (Unit {0}) PartFault) (old new : PartState S D F W) : Type 0 where
  pub home : (result ≡ Ok tt) × (new ≡ record old { store = new.store; merger = Some watch; merging = None }) × (disks new.store ≡ comes_home (merged_name (run_out old) old) (λ f. at_home f) device (disks old.store))
  pub stays : (p : PartView) (frame : Option (List Write)) (m : Merging) → HasFailedAs (told disks moments content old) p frame → p.merge ≡ Some m → file_of m.target ≡ merged_name (run_out old) old → LeavesMerge m device → HasFailedAs (told disks moments content new) p frame
  pub stays_moments : (p : PartView) (frame : Option (List Write)) (m : Merging) → HasFailedAs (told disks moments content old) p frame → p.merge ≡ Some m → file_of m.target ≡ merged_name (run_out old) old → LeavesMerge m device
      → FailedMomentsLeaveStore p frame (told disks moments content old) (disks new.store)

-- The fault of the merge is the answer, its device comes home, and the part keeps what it stored, at each moment too.
pub record FailsUnmerged {S D F W : Type 0} (disks : S → List Disk) (moments : D → List DiskFile) (content : F → Option (List ℕ)) (watch : W) (device : List DiskFile) (cause : MergeFault) (result : Result (Unit {0}) PartFault) (old new : PartState S D F W) : Type 0 where
  pub unmade : old.failed ≡ false
      → (result ≡ Err (of_job (of_merge cause))) × (new ≡ record old { store = new.store; merger = Some watch; merging = None; failed = true }) × (disks new.store ≡ comes_home (merged_name (run_out old) old) (λ f. at_home f) device (disks old.store))
  pub unmade_failed : (p : PartView) (m : Merging) → IsPart (told disks moments content old) p → p.merge ≡ Some m → LeavesMerge m device → HasFailedWhole (told disks moments content new) p
  pub unmade_moments : (p : PartView) (m : Merging) → IsPart (told disks moments content old) p → p.merge ≡ Some m → LeavesMerge m device → FailedMomentsLeaveStore p None (told disks moments content old) (disks new.store)

-- The watch is back, and the part failed: before the component was listed, or behind that.
abbrev pub EndsMerge : {S D F W : Type 0} → (S → List Disk) → (F → Option (List ℕ)) → (F → FileName) → W → List DiskFile → PartState S D F W → PartState S D F W → Type 0
EndsMerge disks content name watch device old new =
    (new.failed ≡ true)
    × (IsMergeUnlisted disks device (run_out old) (record old { merger = Some watch; merging = None }) new ⊎ IsMergeRemoving content name disks device (run_out old) (record old { merger = Some watch; merging = None }) new)

-- it has failed as the part that it was, or as the one whose merge is listed
abbrev pub FailsMerge : {S D F W : Type 0} → (S → List Disk) → (D → List DiskFile) → (F → Option (List ℕ)) → List DiskFile → PartState S D F W → PartState S D F W → Type 0
FailsMerge disks moments content device old new =
    OfMergeMade (told disks moments content old) device (λ p. AreTold (told disks moments content old).components → HasFailedEither (told disks moments content new) p (merged_part p))

-- where the store tells no damage is told of what the merge makes
abbrev pub IsMergeUndamaged : Told → List DiskFile → Result (Unit {0}) PartFault → Type 0
IsMergeUndamaged t device result = OfMergeMade t device (λ p. IfTold t.disks (λ disk. IfDamaged result (λ damage. ⊥)))
