-- The files of a part: those at home in its store, and those that are out as the devices of its logs and of its jobs.
use Rattle.std.specs.Prelude.{◌≡◌, ◌⊎◌, ◌+◌, Bool, true, if◌then◌else◌, List, Option, Some, None, IfSome, IsSome}
use Rattle.tc_store.specs.declared.file_name.FileName.{FileName}
use Rattle.tc_store.specs.declared.file_name.FileName.TheVariants.{Component, Log}
use Rattle.tc_store.specs.Disk.{Disk, Entry, none, home, still, out, is_out, same_name}
use Rattle.tc_store.specs.DiskFile.{DiskFile, empty_file}
use Rattle.tc_store.specs.Moments.{IfTold, LeavesAt}
use Rattle.tc_plain_model.specs.Writes.{Write}
use Rattle.tc_lsm_model.specs.Lists.{last_of}
use Rattle.tc_component.specs.Rows.{IsComponent}
use Rattle.tc_machine.specs.Components.{file_of}
use Rattle.tc_machine.specs.State.{Flushing, flush_name, Merging}
use Rattle.tc_machine.specs.Steps.{IsFlushed, IsShutOrHas, IsOfFlush, IsOfMerge}
use Rattle.tc_machine.specs.Kept.{IsKept}
use Rattle.tc_part_model.specs.PartState.{Told, IsTold}
use Rattle.tc_part_model.specs.PartView.{PartView, state_with, generation_of}

-- ---- what is out stands at home

abbrev pub seen_entry : DiskFile → Entry → Entry
seen_entry f out = home f
seen_entry f (none before) = none before
seen_entry f (home g) = home g
seen_entry f (still bytes) = still bytes

-- the log of the sealed table
abbrev pub sealed_name : PartView → FileName
sealed_name p = Log (last_of p.list + 1)

abbrev pub active_name : PartView → FileName
active_name p = Log (generation_of p)

-- the file of the device of a name: those of both logs, and of any other what it may have
abbrev pub device_at : PartView → DiskFile → DiskFile → (FileName → DiskFile) → FileName → DiskFile
device_at p log sealed_log job name =
    if same_name name (active_name p) then log
    else (if same_name name (sealed_name p) then sealed_log else job name)

abbrev pub files_at : PartView → Disk → DiskFile → DiskFile → (FileName → DiskFile) → Disk
files_at p disk log sealed_log job name = seen_entry (device_at p log sealed_log job name) (disk name)

-- jobs that have written nothing
abbrev pub no_job : FileName → DiskFile
no_job name = empty_file None

-- ---- jobs

-- the files of the jobs that are out are absent, closed or whole
abbrev pub FlushLeaves : PartView → Option Flushing → (FileName → DiskFile) → Type 0
FlushLeaves p None job = Unit {0}
FlushLeaves p (Some f) job = LeavesAt (IsShutOrHas (IsFlushed p.part p.list p.sealed)) (job (flush_name f))

abbrev pub MergeLeaves : Option Merging → (FileName → DiskFile) → Type 0
MergeLeaves None job = Unit {0}
MergeLeaves (Some m) job = LeavesAt (IsShutOrHas (IsComponent m.target)) (job (file_of m.target))

abbrev pub JobsLeave : PartView → (FileName → DiskFile) → Type 0
JobsLeave p job = FlushLeaves p p.flush job × MergeLeaves p.merge job

-- ---- what is kept of the files

-- the name is that of a log or of a job of the part
abbrev pub IsDevice : PartView → FileName → Type 0
IsDevice p (Log g) = (g ≡ generation_of p) ⊎ (IsSome p.sealed × (g ≡ last_of p.list + 1))
IsDevice p (Component from to) = IsOfFlush p.flush from to ⊎ IsOfMerge p.merge from to

-- Both logs are out, and no file is that is no device of the part. What the machine keeps holds of the files, whatever the
-- jobs have done.
pub record AreKeptAt (p : PartView) (failed : Bool) (frame : Option (List Write)) (disk : Disk) (log sealed_log : DiskFile) : Type 0 where
  pub log_out : disk (active_name p) ≡ out
  pub sealed_out : IsSome p.sealed → disk (sealed_name p) ≡ out
  pub devices : (name : FileName) → is_out (disk name) ≡ true → IsDevice p name
  pub kept : (job : FileName → DiskFile) → JobsLeave p job → IsKept p.part (state_with p failed frame (files_at p disk log sealed_log job))

-- the files of the jobs are out
pub record AreJobsOut (flush : Option Flushing) (merge : Option Merging) (disk : Disk) : Type 0 where
  pub flush_out : IfSome flush (λ f. disk (flush_name f) ≡ out)
  pub merge_out : IfSome merge (λ m. disk (file_of m.target) ≡ out)

-- ---- where they are told

-- the file of the sealed log, if there is one that tells
abbrev pub IsSealedFile : Option (List DiskFile) → DiskFile → Type 0
IsSealedFile None g = Unit {0}
IsSealedFile (Some moments) g = IfTold moments (λ now. g ≡ now)

-- of the store's files, and of those of both logs
abbrev pub IfFiles : List Disk → List DiskFile → Option (List DiskFile) → (Disk → DiskFile → DiskFile → Type 0) → Type 0
IfFiles disks log sealed_log P = IfTold disks λ disk. IfTold log λ f. (g : DiskFile) → IsSealedFile sealed_log g → P disk f g

abbrev pub IfFilesTold : Told → (Disk → DiskFile → DiskFile → Type 0) → Type 0
IfFilesTold t P = IfFiles t.disks t.log t.sealed_log P

-- where the store tells, both logs do
pub record LogsTell (disks : List Disk) (log : List DiskFile) (sealed_log : Option (List DiskFile)) : Type 0 where
  pub active : IfTold disks (λ disk. IsTold log)
  pub sealed : IfTold disks (λ disk. IfSome sealed_log (λ moments. IsTold moments))
