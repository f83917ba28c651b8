-- What a partition begins with, as far as it tells.
use Rattle.std.specs.Prelude.{◌≡◌, ℕ, false, List, map, Option, None}
use Rattle.tc_store.specs.declared.file_name.FileName.{FileName}
use Rattle.tc_store.specs.Disk.{Disk, is_out, out}
use Rattle.tc_store.specs.DiskFile.{DiskFile}
use Rattle.tc_store.specs.Moments.{IfTold}
use Rattle.tc_component.specs.Loading.{ComponentState}
use Rattle.tc_component.specs.Spelling.{Index}
use Rattle.tc_lsm_model.specs.Contents.{Content}
use Rattle.tc_lsm_model.specs.Lists.{live}
use Rattle.tc_part_model.specs.Leaving.{FailedMomentsLeaveStore, KeepsStore}
use Rattle.tc_part_model.specs.Meaning.{IsPart}
use Rattle.tc_part_model.specs.Newest.{newest_index}
use Rattle.tc_part_model.specs.PartState.{IsTold, Told, told_component}
use Rattle.tc_part_model.specs.Starting.{IsOpened, ToldOpening, started, started_part}
use Rattle.tc_part.specs.FilesOut.{LogIsOut, OnlyDevicesOut, OnlyOut}
use Rattle.tc_part.specs.OwnFiles.{HasOnlyOwn, HasOwnFiles}

-- The moments of a store and of a device, and the content of a still file, come from the traits of the store.
abbrev pub told_opening : {S D F : Type 0} → (S → List Disk) → (D → List DiskFile) → (F → Option (List ℕ)) → ℕ → ℕ → S → D → List (ComponentState F) → ToldOpening
told_opening disks moments content number count store log list = record {
  part = record { number = number; count = count };
  disks = disks store;
  log = moments log;
  components = map (told_component content) list;
}

-- what the newest listed component has beside its records, if there is one
abbrev pub newest_in : {F : Type 0} → (F → Option (List ℕ)) → List (ComponentState F) → Option Index
newest_in content list = newest_index None (map (told_component content) list)

-- The files of the part are its own, where each name that is there is that of a log which is no newer, or lies within a listed
-- component. Where no file is out but that of the log, which has this name, so it is of the part. It is the part that is opened,
-- where that makes up one.
pub record StartsPart (name : FileName) (o : ToldOpening) (t : Told) : Type 0 where
  pub own : IfTold o.disks (HasOnlyOwn (started o)) → HasOwnFiles t
  pub devices : IfTold o.disks (OnlyOut name) → OnlyDevicesOut t
  pub log_out : IfTold o.disks (λ disk. (disk name ≡ out) × IsTold o.log) → LogIsOut t
  pub started : (list : List Content) → IsOpened o list → IsPart t (started_part o.part list)

-- It does not start: whatever a stop leaves, and at each moment of the call, is what is live in the components. No file is out
-- any more, where none was but that of the log.
pub record KeepsOpening (name : FileName) (o : ToldOpening) (disks : List Disk) : Type 0 where
  pub brought_in : IfTold o.disks (λ disk. IsTold o.log) → IfTold o.disks (OnlyOut name) → IfTold disks (λ disk. (other : FileName) → is_out (disk other) ≡ false)
  pub kept : (list : List Content) → IsOpened o list → IfTold disks (KeepsStore o.part (live list) None)
  pub moments : (list : List Content) → IsOpened o list → FailedMomentsLeaveStore (started_part o.part list) None (started o) disks
