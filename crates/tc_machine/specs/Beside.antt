-- What a stop may leave while jobs run by themselves.
use Rattle.std.specs.Prelude.{◌≢◌, Option, Some, None, AllPairs}
use Rattle.tc_store.specs.declared.file_name.FileName.{FileName}
use Rattle.tc_store.specs.Disk.{MayLeaveAt, Picture, bytes_at}
use Rattle.tc_lsm_model.specs.Contents.{Partition}
use Rattle.tc_component.specs.Rows.{IsComponent}
use Rattle.tc_machine.specs.Components.{file_of}
use Rattle.tc_machine.specs.State.{Flushing, flush_name, Merging, State}
use Rattle.tc_machine.specs.Steps.{nothing_held, IsShutOrHas, IsFlushed}

-- the name is not that of the file of the flush, nor of the merge
abbrev pub IsNotFlush : Option Flushing → FileName → Type 0
IsNotFlush None name = Unit {0}
IsNotFlush (Some f) name = name ≢ flush_name f

abbrev pub IsNotMerge : Option Merging → FileName → Type 0
IsNotMerge None name = Unit {0}
IsNotMerge (Some m) name = name ≢ file_of m.target

-- the file of the flush, and of the merge, is absent, closed or whole
abbrev pub LeavesFlush : Partition → State → Option Flushing → Picture → Type 0
LeavesFlush part s None picture = Unit {0}
LeavesFlush part s (Some f) picture = IsShutOrHas (IsFlushed part s.list s.sealed) (bytes_at picture (flush_name f))

abbrev pub LeavesMerge : Option Merging → Picture → Type 0
LeavesMerge None picture = Unit {0}
LeavesMerge (Some m) picture = IsShutOrHas (IsComponent m.target) (bytes_at picture (file_of m.target))

-- A stop may leave this picture, whatever the jobs that are out had done by then.
pub record IsPictureBeside (part : Partition) (s : State) (picture : Picture) : Type 0 where
  pub once : AllPairs (λ a b. a.0 ≢ b.0) picture
  pub flush : LeavesFlush part s s.flush picture
  pub merge : LeavesMerge s.merge picture
  pub others : (name : FileName) → IsNotFlush s.flush name → IsNotMerge s.merge name → MayLeaveAt (nothing_held name) (s.files name) (bytes_at picture name)
