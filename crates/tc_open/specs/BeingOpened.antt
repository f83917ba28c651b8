-- A partition that is being opened, between two calls, and what a stop leaves of it.
use Rattle.std.specs.Prelude.{◌≡◌, ℕ, false, List, [], ◌∷◌, None, All}
use Rattle.tc_store.specs.declared.file_name.FileName.{FileName}
use Rattle.tc_store.specs.Disk.{Disk, is_out, still}
use Rattle.tc_store.specs.DiskFile.{DiskFile}
use Rattle.tc_store.specs.Moments.{EachSince, IfTold, LeavesAt}
use Rattle.tc_plain_model.specs.Writes.{Pairs, Write, after_writes}
use Rattle.tc_lsm_model.specs.Contents.{Partition, Content}
use Rattle.tc_lsm_model.specs.Lists.{live}
use Rattle.tc_machine.specs.Events.{opened, replayed}
use Rattle.tc_machine.specs.Kept.{IsKept, IsMemoryKept}
use Rattle.tc_machine.specs.Logs.{all_writes}
use Rattle.tc_machine.specs.State.{State}
use Rattle.tc_machine.specs.Steps.{IsFlushed, IsShutOrHas, IsSpare}
use Rattle.tc_part_model.specs.Leaving.{KeepsStore}
use Rattle.tc_part_model.specs.PartFiles.{seen_entry}
use Rattle.tc_part_model.specs.PartView.{no_files}

-- these components are listed, and these logs are above them
abbrev pub opening_at : List Content → List (List Write) → Disk → State
opening_at cs logs disk = record (opened [] cs logs) { files = disk }

-- what is stored in them
abbrev pub stored_by : List Content → List (List Write) → Pairs
stored_by cs logs = after_writes (live cs) (all_writes logs)

-- no file is out as a device
abbrev pub AreIn : Disk → Type 0
AreIn disk = (name : FileName) → is_out (disk name) ≡ false

-- It keeps what the machine keeps: of what it has in memory over every store, and of the files where they are told.
pub record IsOpening (part : Partition) (cs : List Content) (logs : List (List Write)) (disks : List Disk) : Type 0 where
  pub memory : IsMemoryKept part (opening_at cs logs no_files)
  pub kept : IfTold disks (λ disk. IsKept part (opening_at cs logs disk))
  pub home : IfTold disks AreIn

-- A stop leaves these documents, whatever a job had done by then to its device, if that is out: its file is absent, closed, or
-- whole.
abbrev pub LeavesWriting : Partition → Pairs → (List ℕ → Type 0) → Disk → Type 0
LeavesWriting part pairs Whole disk = (x : DiskFile) → LeavesAt (IsShutOrHas Whole) x → KeepsStore part pairs None (λ name. seen_entry x (disk name))

-- what is stored, while the logs are flushed
abbrev pub LeavesLogged : Partition → List Content → List (List Write) → Disk → Type 0
LeavesLogged part cs logs disk = LeavesWriting part (stored_by cs logs) (IsFlushed part cs (replayed cs logs)) disk

-- the device tells, and so it is at its newest moment
pub record IsWritingNow (Whole : List ℕ → Type 0) (device : List DiskFile) : Type 0 where
  pub now : DiskFile
  pub past : List DiskFile
  pub is : device ≡ now ∷ past
  pub leaves : LeavesAt (IsShutOrHas Whole) now

-- At each moment a stop leaves these documents, and so it does behind the last one, where no file is out.
pub record IsKeptWriting (part : Partition) (pairs : Pairs) (Whole : List ℕ → Type 0) (disks later : List Disk) : Type 0 where
  pub moments : EachSince (LeavesWriting part pairs Whole) disks later
  pub kept : IfTold later (λ disk. AreIn disk × KeepsStore part pairs None disk)

-- each of these files, where it is still, is a component that is not listed, a log that the components cover, or a closed one
abbrev pub AreNeedless : List Content → Disk → List FileName → Type 0
AreNeedless cs disk names = All (λ name. (bytes : List ℕ) → disk name ≡ still bytes → IsSpare (opening_at cs [] disk) name bytes) names
