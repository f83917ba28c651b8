-- Which files of a part are out as devices, by their names alone, whatever became of the part.
use Rattle.std.specs.Prelude.{◌≡◌, ◌-◌, ◌⊎◌, ℕ, true, List, [], ◌∷◌, take, drop, Option, Some, None, IsSome}
use Rattle.tc_store.specs.declared.file_name.FileName.{FileName}
use Rattle.tc_store.specs.declared.file_name.FileName.TheVariants.{Component, Log}
use Rattle.tc_store.specs.Disk.{Disk, is_out, out}
use Rattle.tc_store.specs.Moments.{IfTold}
use Rattle.tc_lsm_model.specs.Merges.{Run}
use Rattle.tc_part_model.specs.PartFiles.{LogsTell}
use Rattle.tc_part_model.specs.PartState.{IsTold, Told, ToldComponent}

-- ---- the devices of a part

-- the last generation of those that stand behind one
abbrev pub last_told : ℕ → List ToldComponent → ℕ
last_told generation [] = generation
last_told generation (c ∷ cs) = last_told c.index.head.to cs

-- the name of a component with all generations of these neighbours
abbrev pub IsOverAll : List ToldComponent → FileName → Type 0
IsOverAll [] name = ⊥
IsOverAll (c ∷ cs) name = name ≡ Component c.index.head.from (last_told c.index.head.to cs)

-- the name of what the merge makes that is out
abbrev pub IsOfMergeOut : Option Run → List ToldComponent → FileName → Type 0
IsOfMergeOut None cs name = ⊥
IsOfMergeOut (Some run) cs name = IsOverAll (take run.length (drop run.first cs)) name

-- the name of the active log, or of the sealed one
abbrev pub IsLogOf : Told → FileName → Type 0
IsLogOf t name = (name ≡ Log t.generation) ⊎ (IsSome t.sealed_log × (name ≡ Log (t.generation - 1)))

-- the name of what a job makes that is out
abbrev pub IsJobOf : Told → FileName → Type 0
IsJobOf t name = ((t.flushing ≡ true) × (name ≡ Component (t.generation - 1) (t.generation - 1))) ⊎ IsOfMergeOut t.merging t.components name

-- ---- what is out

-- Where the store tells its files, none is out but those of the logs and of the jobs.
abbrev pub OnlyDevicesOut : Told → Type 0
OnlyDevicesOut t = IfTold t.disks (λ disk. (name : FileName) → is_out (disk name) ≡ true → IsLogOf t name ⊎ IsJobOf t name)

-- no file is out but that of this name
abbrev pub OnlyOut : FileName → Disk → Type 0
OnlyOut one disk = (name : FileName) → is_out (disk name) ≡ true → name ≡ one

-- where the store tells its files, the devices of both logs do
abbrev pub TellsLogs : Told → Type 0
TellsLogs t = LogsTell t.disks t.log t.sealed_log

-- Where the store tells its files, none is out but those of the part's devices, and the devices of its logs tell, so that each can
-- come home.
pub record HoldsDevices (t : Told) : Type 0 where
  pub tells : TellsLogs t
  pub only : OnlyDevicesOut t

-- Where the store tells its files, that of the active log is out, and its device tells it.
abbrev pub LogIsOut : Told → Type 0
LogIsOut t = IfTold t.disks (λ disk. (disk (Log t.generation) ≡ out) × IsTold t.log)
