-- The flush of the logs of a partition that is being opened: the name of its component, its device, and what a stop leaves meanwhile.
use Rattle.std.specs.Prelude.{◌+◌, List, length}
use Rattle.tc_store.specs.declared.file_name.FileName.{FileName}
use Rattle.tc_store.specs.declared.file_name.FileName.TheVariants.{Component}
use Rattle.tc_store.specs.Disk.{Disk}
use Rattle.tc_store.specs.DiskFile.{DiskFile}
use Rattle.tc_store.specs.Moments.{LeavesAt}
use Rattle.tc_plain_model.specs.Writes.{Write}
use Rattle.tc_lsm_model.specs.Contents.{Content, Partition}
use Rattle.tc_lsm_model.specs.Lists.{last_of}
use Rattle.tc_machine.specs.Events.{replayed}
use Rattle.tc_machine.specs.Steps.{IsFlushed, IsShutOrHas}
use Rattle.tc_open.specs.BeingOpened.{IsKeptWriting, IsWritingNow, stored_by}

-- the component that the logs become: it has a generation for each of them
abbrev pub made_name : List Content → List (List Write) → FileName
made_name cs logs = Component (last_of cs + 1) (last_of cs + length logs)

-- a stop leaves its file absent, closed or whole
abbrev pub LeavesFlush : Partition → List Content → List (List Write) → DiskFile → Type 0
LeavesFlush part cs logs x = LeavesAt (IsShutOrHas (IsFlushed part cs (replayed cs logs))) x

-- its device is at its newest moment
abbrev pub IsDeviceNow : Partition → List Content → List (List Write) → List DiskFile → Type 0
IsDeviceNow part cs logs device = IsWritingNow (IsFlushed part cs (replayed cs logs)) device

-- at each moment a stop leaves what was stored, and so it does after the last one, where no file is out
abbrev pub IsKeptBehind : Partition → List Content → List (List Write) → List Disk → List Disk → Type 0
IsKeptBehind part cs logs disks later = IsKeptWriting part (stored_by cs logs) (IsFlushed part cs (replayed cs logs)) disks later
