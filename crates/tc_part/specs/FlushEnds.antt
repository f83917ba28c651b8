-- What becomes of a part when what is left of a flush is handed back.
use Rattle.std.specs.Prelude.{◌≡◌, ◌-◌, ◌⊎◌, ℕ, true, false, List, Option, None, Some, IfSome, Result, Ok, Err}
use Rattle.tc_store.specs.declared.damage.Damage.{Damage}
use Rattle.tc_store.specs.declared.fault.DeviceFault.{DeviceFault}
use Rattle.tc_store.specs.declared.file_name.FileName.{FileName}
use Rattle.tc_store.specs.declared.file_name.FileName.TheVariants.{Component, Log}
use Rattle.tc_store.specs.Counted.{Counts}
use Rattle.tc_store.specs.Disk.{Disk, home as at_home}
use Rattle.tc_store.specs.DiskFile.{DiskFile, IsSettled}
use Rattle.tc_store.specs.Moments.{IfTold, LeavesAt}
use Rattle.tc_store.specs.StoreCalls.{comes_home, frozen_entry, removes}
use Rattle.tc_component.specs.Loading.{ComponentState}
use Rattle.tc_plain_model.specs.Writes.{Write}
use Rattle.tc_lsm_model.specs.Contents.{Content}
use Rattle.tc_machine.specs.State.{Flushing, flush_name}
use Rattle.tc_machine.specs.Steps.{IsFlushed, IsShutOrHas}
use Rattle.tc_jobs.specs.Listing.{FailsRemoving, FitsBehind, IsListed, IsReadBack, IsUnlisted, behind}
use Rattle.tc_part_model.specs.Calls.{HasMade, MakesFlush}
use Rattle.tc_part_model.specs.Changes.{flushed_part}
use Rattle.tc_part_model.specs.Leaving.{FailedMomentsLeaveStore}
use Rattle.tc_part_model.specs.Meaning.{HasFailedAs, IsPart}
use Rattle.tc_part_model.specs.PartState.{PartState, Told, told}
use Rattle.tc_part_model.specs.PartView.{PartView, store_of}
use Rattle.tc_part.specs.declared.fault.PartFault.{PartFault}
use Rattle.tc_part.specs.Closing.{HasFailedEither, HasFailedWhole}
use Rattle.tc_part.specs.Faults.{IfDamaged, of_device}
use Rattle.tc_part.specs.JobEnds.{IsLeftUnlisted}
use Rattle.tc_part.specs.JobHeads.{flushed_head}
use Rattle.tc_part.specs.OwnFiles.{KeepsOwnFiles}
use Rattle.tc_part.specs.Reads.{ReadsTwice}

-- the name of what the flush makes, and that of the log that it covers
abbrev pub flushed_name : {S D F W : Type 0} → PartState S D F W → FileName
flushed_name p = Component (p.generation - 1) (p.generation - 1)

abbrev pub covered_name : {S D F W : Type 0} → PartState S D F W → FileName
covered_name p = Log (p.generation - 1)

-- the component that the device has is listed behind the others, over every store
abbrev pub HasListed : {S D F W : Type 0} → (F → Option (List ℕ)) → (F → FileName) → List DiskFile → PartState S D F W → List (ComponentState F) → Type 0
HasListed content name device old list = IsListed (IsReadBack content name (flushed_head old.number old.count old.generation) (flushed_name old) device) (FitsBehind old.list) (behind old.list) list

-- the file of the component is still, and the log that it covers is gone
abbrev pub HasUncovered : {S D F W : Type 0} → (S → List Disk) → (D → List DiskFile) → List DiskFile → PartState S D F W → List Disk → Type 0
HasUncovered disks moments device old new =
    IfSome old.sealed_log (λ l. IfTold (moments l.device) IsSettled × (new ≡ removes (covered_name old) (comes_home (covered_name old) frozen_entry (moments l.device) (comes_home (flushed_name old) frozen_entry device (disks old.store)))))

-- nothing is listed, and the file of the device is at home, still or as it is
abbrev pub IsFlushUnlisted : {S D F W : Type 0} → (S → List Disk) → List DiskFile → PartState S D F W → PartState S D F W → Type 0
IsFlushUnlisted disks device old new = IsLeftUnlisted disks (flushed_name old) device old new

-- the component is listed, and the log that it covers came home, or counts as removed
pub record IsFlushCovering {S D F W : Type 0} (content : F → Option (List ℕ)) (name : F → FileName) (disks : S → List Disk) (moments : D → List DiskFile) (device : List DiskFile) (old new : PartState S D F W) : Type 0 where
  pub listed : HasListed content name device old new.list
  pub same : new ≡ record old { store = new.store; main = new.main; list = new.list; sealed = None; sealed_log = None; failed = new.failed }
  pub settled : IfSome old.sealed_log (λ l. IfTold (moments l.device) IsSettled)
  pub covered : IfSome old.sealed_log (λ l. FailsRemoving (covered_name old) (moments l.device) (comes_home (flushed_name old) frozen_entry device (disks old.store)) (disks new.store))

-- the file of the device is damaged, or the names of the component that it is do not go on from those of the newest one listed
abbrev pub IsFlushDamage : {S D F W : Type 0} → (F → Option (List ℕ)) → (F → FileName) → ℕ → List DiskFile → PartState S D F W → Damage → Type 0
IsFlushDamage content name size device old =
    IsUnlisted (IsReadBack content name (flushed_head old.number old.count old.generation) (flushed_name old) device) (FitsBehind old.list) (flushed_head old.number old.count old.generation) size device

-- ---- what comes of the call

-- What is so of each part that this is, and of what its flush makes, if the device has that.
abbrev pub OfFlushMade : Told → List DiskFile → (PartView → Content → Type 0) → Type 0
OfFlushMade t device P = (p : PartView) (c : Content) → IsPart t p → MakesFlush p c → HasMade c t.disks device → P p c

-- a stop finds the device shut, or with what the flush of this part makes
abbrev pub LeavesFlush : PartView → List DiskFile → Type 0
LeavesFlush p device = IfTold device (LeavesAt (IsShutOrHas (IsFlushed p.part p.list p.sealed)))

-- Over every store the component of the device is listed behind the others, no table is sealed, and the log that it covers is
-- gone. It is the part whose flush is listed, which stores what it stored.
pub record ListsFlush {S D F W : Type 0} (disks : S → List Disk) (moments : D → List DiskFile) (content : F → Option (List ℕ)) (name : F → FileName) (counts : W → Counts) (watch : W) (device : List DiskFile) (old new : PartState S D F W) : Type 0 where
  pub flushed : OfFlushMade (told disks moments content old) device (λ p c. IfTold (disks old.store) (λ disk. IsPart (told disks moments content new) (flushed_part c p)) × (store_of (flushed_part c p) ≡ store_of p))
  pub listed : HasListed content name device old new.list
  pub same : new ≡ record old { store = new.store; main = new.main; flusher = Some watch; flushing = false; list = new.list; sealed = None; sealed_log = None }
  pub uncovered : HasUncovered disks moments device old (disks new.store)
  pub own : KeepsOwnFiles (told disks moments content old) (told disks moments content new)
  pub reads : ReadsTwice (counts old.main) (counts new.main)

-- A part that had failed gets its device home and its watch back, and keeps what it stored, at each moment too.
pub record GivesFlushBack {S D F W : Type 0} (disks : S → List Disk) (moments : D → List DiskFile) (content : F → Option (List ℕ)) (watch : W) (device : List DiskFile) (result : Result (Unit {0}) PartFault) (old new : PartState S D F W) : Type 0 where
  pub home : (result ≡ Ok tt) × (new ≡ record old { store = new.store; flusher = Some watch; flushing = false }) × (disks new.store ≡ comes_home (flushed_name old) (λ f. at_home f) device (disks old.store))
  pub stays : (p : PartView) (frame : Option (List Write)) (j : Flushing) → HasFailedAs (told disks moments content old) p frame → p.flush ≡ Some j → flush_name j ≡ flushed_name old → LeavesFlush p device → HasFailedAs (told disks moments content new) p frame
  pub stays_moments : (p : PartView) (frame : Option (List Write)) (j : Flushing) → HasFailedAs (told disks moments content old) p frame → p.flush ≡ Some j → flush_name j ≡ flushed_name old → LeavesFlush p device
      → FailedMomentsLeaveStore p frame (told disks moments content old) (disks new.store)

-- The fault of the flush is the answer, its device comes home, and the part keeps what it stored, at each moment too.
pub record FailsUnmade {S D F W : Type 0} (disks : S → List Disk) (moments : D → List DiskFile) (content : F → Option (List ℕ)) (watch : W) (device : List DiskFile) (cause : DeviceFault) (result : Result (Unit {0}) PartFault) (old new : PartState S D F W) : Type 0 where
  pub unmade : old.failed ≡ false
      → (result ≡ Err (of_device cause)) × (new ≡ record old { store = new.store; flusher = Some watch; flushing = false; failed = true }) × (disks new.store ≡ comes_home (flushed_name old) (λ f. at_home f) device (disks old.store))
  pub unmade_failed : (p : PartView) → IsPart (told disks moments content old) p → LeavesFlush p device → HasFailedWhole (told disks moments content new) p
  pub unmade_moments : (p : PartView) → IsPart (told disks moments content old) p → LeavesFlush p device → FailedMomentsLeaveStore p None (told disks moments content old) (disks new.store)

-- The watch is back, and the part failed: before the component was listed, or behind that.
abbrev pub EndsFlush : {S D F W : Type 0} → (S → List Disk) → (D → List DiskFile) → (F → Option (List ℕ)) → (F → FileName) → W → List DiskFile → PartState S D F W → PartState S D F W → Type 0
EndsFlush disks moments content name watch device old new =
    (new.failed ≡ true)
    × (IsFlushUnlisted disks device (record old { flusher = Some watch; flushing = false }) new ⊎ IsFlushCovering content name disks moments device (record old { flusher = Some watch; flushing = false }) new)

-- it has failed as the part that it was, or as the one whose flush is listed
abbrev pub FailsFlush : {S D F W : Type 0} → (S → List Disk) → (D → List DiskFile) → (F → Option (List ℕ)) → List DiskFile → PartState S D F W → PartState S D F W → Type 0
FailsFlush disks moments content device old new = OfFlushMade (told disks moments content old) device (λ p c. HasFailedEither (told disks moments content new) p (flushed_part c p))

-- where the store tells no damage is told of what a flush of the part made
abbrev pub IsFlushUndamaged : Told → List DiskFile → Result (Unit {0}) PartFault → Type 0
IsFlushUndamaged t device result = OfFlushMade t device (λ p c. IfTold t.disks (λ disk. IfDamaged result (λ damage. ⊥)))
