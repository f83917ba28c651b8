-- What becomes of a part when what is left of a job is handed back, and nothing is listed.
use Rattle.std.specs.Prelude.{◌≡◌, List}
use Rattle.tc_store.specs.declared.file_name.FileName.{FileName}
use Rattle.tc_store.specs.Disk.{Disk}
use Rattle.tc_store.specs.DiskFile.{DiskFile}
use Rattle.tc_jobs.specs.ReadBack.{ComesHome}
use Rattle.tc_part_model.specs.PartState.{PartState}

-- the file of the device, which has this name, is at home, still or as it is, and nothing else changed
pub record IsLeftUnlisted {S D F W : Type 0} (disks : S → List Disk) (name : FileName) (device : List DiskFile) (old new : PartState S D F W) : Type 0 where
  pub same : new ≡ record old { store = new.store; main = new.main; failed = new.failed }
  pub home : ComesHome name device (disks old.store) (disks new.store)
