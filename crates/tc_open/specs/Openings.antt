-- A partition that is opened: what it is, and what a stop leaves while it is opened.
use Rattle.std.specs.Prelude.{◌≡◌, ◌⊎◌, List, None}
use Rattle.tc_store.specs.Disk.{Disk}
use Rattle.tc_plain_model.specs.Writes.{Pairs, Write}
use Rattle.tc_component.specs.Rows.{IsComponent}
use Rattle.tc_lsm_model.specs.Contents.{Partition, Content}
use Rattle.tc_lsm_model.specs.Lists.{live}
use Rattle.tc_lsm_model.specs.Merges.{IsMerge}
use Rattle.tc_machine.specs.Pictures.{recovered}
use Rattle.tc_part_model.specs.Leaving.{KeepsStore}
use Rattle.tc_part_model.specs.Meaning.{IsPart, plain_of}
use Rattle.tc_part_model.specs.PartState.{AreTold, IsTold, Told}
use Rattle.tc_part_model.specs.Starting.{started_part}
use Rattle.tc_open.specs.BeingOpened.{AreIn, LeavesLogged, LeavesWriting, stored_by}
use Rattle.tc_open.specs.FirstLog.{IsStarting}
use Rattle.tc_open.specs.Listed.{AreOpenedFrom}

-- It is a part whose tables are empty, over components that were read, flushed of logs or merged, and which hold what was stored,
-- with the names that a reopened store has. It tells its files, and those of its components.
pub record IsOpenedAs (part : Partition) (cs : List Content) (logs : List (List Write)) (t : Told) : Type 0 where
  pub list : List Content
  pub opened : AreOpenedFrom part cs logs list
  pub is : IsPart t (started_part part list)
  pub plain : plain_of t (started_part part list) ≡ recovered cs logs
  pub store : IsTold t.disks
  pub components : AreTold t.components

-- ---- moments

-- these components and logs hold these documents, and a stop leaves them, whatever the flush of the logs had done by then
pub record LeavesReplayed (part : Partition) (pairs : Pairs) (disk : Disk) : Type 0 where
  pub list : List Content
  pub logs : List (List Write)
  pub holds : stored_by list logs ≡ pairs
  pub leaves : LeavesLogged part list logs disk

-- these components hold them, and a stop leaves them, whatever the merge of them all had done by then
pub record LeavesMerging (part : Partition) (pairs : Pairs) (disk : Disk) : Type 0 where
  pub list : List Content
  pub target : Content
  pub merges : IsMerge list target
  pub holds : live list ≡ pairs
  pub leaves : LeavesWriting part (live list) (IsComponent target) disk

-- these components hold them, and a stop leaves them, whatever was done by then to the log behind these; no other file is out
pub record LeavesStarting (part : Partition) (pairs : Pairs) (disk : Disk) : Type 0 where
  pub list : List Content
  pub holds : live list ≡ pairs
  pub leaves : IsStarting part list pairs disk

-- A stop at this moment leaves these documents; where it is said of no device, no file is out.
abbrev pub LeavesStored : Partition → Pairs → Disk → Type 0
LeavesStored part pairs disk = (AreIn disk × KeepsStore part pairs None disk) ⊎ (LeavesReplayed part pairs disk ⊎ (LeavesStarting part pairs disk ⊎ LeavesMerging part pairs disk))
