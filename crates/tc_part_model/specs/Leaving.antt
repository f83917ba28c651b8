-- What a stop at the moments of a call leaves: the store, or the store with the frame that is appended.
use Rattle.std.specs.Prelude.{◌≡◌, ◌⊎◌, ℕ, ◌+◌, List, [], Option, Some, None, All, false, if◌then◌else◌}
use Rattle.tc_store.specs.declared.file_name.FileName.{FileName}
use Rattle.tc_store.specs.declared.file_name.FileName.TheVariants.{Log}
use Rattle.tc_store.specs.Disk.{Disk, Picture, same_name}
use Rattle.tc_store.specs.Pictures.{LeavesPictures}
use Rattle.tc_store.specs.DiskFile.{DiskFile, empty_file}
use Rattle.tc_store.specs.Moments.{IfTold, EachSince, LeavesAt}
use Rattle.tc_plain_model.specs.Writes.{Pairs, Write}
use Rattle.tc_lsm_model.specs.Contents.{Partition, Content}
use Rattle.tc_lsm_model.specs.Lists.{last_of}
use Rattle.tc_machine.specs.Logs.{IsLog}
use Rattle.tc_machine.specs.Pictures.{Opens, Recovers, logs_size}
use Rattle.tc_machine.specs.Steps.{IsShutOrHas, nothing_held}
use Rattle.tc_machine.specs.Sound.{IsWithOrWithout}
use Rattle.tc_machine.specs.Beside.{IsPictureBeside}
use Rattle.tc_part_model.specs.PartState.{Told}
use Rattle.tc_part_model.specs.PartView.{PartView, state_with, store_of, next_of}
use Rattle.tc_part_model.specs.PartFiles.{files_at, no_job, IsSealedFile}

-- ---- one moment

-- A stop leaves what is stored, without the frame or with it, whatever the jobs that are out had done by then.
abbrev pub LeavesStore : PartView → Option (List Write) → (FileName → DiskFile) → Disk → DiskFile → DiskFile → Type 0
LeavesStore p frame other disk sealed_log log =
    (picture : Picture) → IsPictureBeside p.part (state_with p false frame (files_at p disk log sealed_log other)) picture
    → Recovers p.part picture (IsWithOrWithout (store_of p) frame)

-- the next log, where that is out, has this file
abbrev pub with_next_log : PartView → DiskFile → FileName → DiskFile
with_next_log p x name = if same_name name (Log (next_of p)) then x else empty_file None

-- the file of the next log is absent, closed, or without a frame
abbrev pub NextLogLeaves : PartView → DiskFile → Type 0
NextLogLeaves p x = LeavesAt (IsShutOrHas (IsLog p.part (next_of p) [])) x

-- So it is at this moment of the store, whatever was done by then to the next log, if that is out.
abbrev pub LeavesStoreAt : PartView → Option (List Write) → DiskFile → DiskFile → Disk → Type 0
LeavesStoreAt p frame sealed_log log disk = (x : DiskFile) → NextLogLeaves p x → LeavesStore p frame (with_next_log p x) disk sealed_log log

-- ---- all moments of a call

-- each moment of the log from the one on to the other, while the staged writes are appended as a frame
abbrev pub LogMomentsLeaveStore : PartView → Told → List DiskFile → Type 0
LogMomentsLeaveStore p old log =
    IfTold old.disks λ disk. (g : DiskFile) → IsSealedFile old.sealed_log g → IfTold old.log λ f. EachSince (LeavesStore p (Some p.staged) no_job disk g) old.log log

-- Each moment of the store leaves what is stored, by what the part was before the call, or by what it becomes.
abbrev pub StoreMomentsLeaveStore : PartView → PartView → Told → List Disk → Type 0
StoreMomentsLeaveStore p q old disks =
    IfTold old.log λ f. (g : DiskFile) → IsSealedFile old.sealed_log g → EachSince (λ disk. LeavesStoreAt p None g f disk ⊎ LeavesStoreAt q None g f disk) old.disks disks

-- So it is of a part that has failed: without the frame of a commit that failed, or with it.
abbrev pub FailedMomentsLeaveStore : PartView → Option (List Write) → Told → List Disk → Type 0
FailedMomentsLeaveStore p frame old disks =
    IfTold old.log λ f. (g : DiskFile) → IsSealedFile old.sealed_log g → EachSince (LeavesStoreAt p frame g f) old.disks disks

-- each moment of a log that the call made, as the next one of the part
abbrev pub NextLogMoments : PartView → List DiskFile → Type 0
NextLogMoments p log = All (NextLogLeaves p) log

-- ---- where everything is at home

-- each picture of these files holds these documents, without the frame or with it
abbrev pub KeepsStore : Partition → Pairs → Option (List Write) → Disk → Type 0
KeepsStore part pairs frame disk = LeavesPictures nothing_held (λ picture. Recovers part picture (IsWithOrWithout pairs frame)) disk

-- each picture of these files opens as these components and logs, and the files of the logs have so many bytes together
abbrev pub OpensAs : Partition → List Content → List (List Write) → ℕ → Disk → Type 0
OpensAs part list logs bytes disk = LeavesPictures nothing_held (λ picture. Opens part picture list logs × (logs_size picture (last_of list + 1) logs ≡ bytes)) disk
