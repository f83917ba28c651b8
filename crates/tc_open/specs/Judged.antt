-- Which files are why a partition is not opened.
use Rattle.std.specs.Prelude.{◌≡◌, ◌⊎◌, ◌<◌, ◌+◌, ◌^◌, ℕ, List, All, Option, map, length, Ok, Err}
use Rattle.tc_store.specs.declared.damage.Damage.{Damage}
use Rattle.tc_store.specs.declared.damage.Damage.TheVariants.{Bytes, Files}
use Rattle.tc_store.specs.declared.file_name.FileName.{FileName}
use Rattle.tc_store.specs.Disk.{content_of, Disk}
use Rattle.tc_store.specs.Judging as judging
use Rattle.tc_store.specs.Moments.{IfTold}
use Rattle.tc_component.specs.declared.head.Head.{Head}
use Rattle.tc_component.specs.Loading.{ComponentState, index_in}
use Rattle.tc_component.specs.Rows.{part_of}
use Rattle.tc_component.specs.Spelling.{name_of}
use Rattle.tc_list.specs.Intervals.{last_of}
use Rattle.tc_lsm_model.specs.Contents.{Partition}
use Rattle.tc_recover.specs.declared.cause.FilesCause.{FilesCause}
use Rattle.tc_recover.specs.declared.cause.FilesCause.TheVariants as files
use Rattle.tc_recover.specs.declared.taken.Taken.{Taken}
use Rattle.tc_recover.specs.Files.{AreNamed, TakesSome}
use Rattle.tc_recover.specs.Opening.{DiskJudged, Found, IsReadCause}
use Rattle.tc_recover.specs.Refusals.{Refusal, breaks, strays, clashes}
use Rattle.tc_open.specs.FlushedLogs.{IsReplayDamage}
use Rattle.tc_open.specs.Merges.{IsMergeDamage, head_over}
use Rattle.tc_open.specs.Listed.{AreFlushed, end_by, most_listed}
use Rattle.tc_open.specs.declared.fault.OpenCause.{OpenCause}
use Rattle.tc_open.specs.declared.fault.OpenCause.TheVariants.{Damaged, Layout, Spent}

-- ---- over every store

-- this is what is refused of some files, which have these names and lengths
pub record IsOfFiles {F : Type 0} (W : Type 0) (size : F → ℕ) (name : F → FileName) (part : Partition) (cause : FilesCause) : Type 0 where
  pub taken : List (Taken F W)
  pub named : AreNamed name taken
  pub harm : IsReadCause size part taken cause

-- The damage was found while the logs above the components were flushed, once all of this had been read of components of which this
-- holds.
pub record IsOfLogs {F : Type 0} (content : F → Option (List ℕ)) (name : F → FileName) (part : Partition) (Are : List (ComponentState F) → Type 0) (found : Found) (damage : Damage) : Type 0 where
  pub list : List (ComponentState F)
  pub head : Head
  pub are : Are list
  pub components : found.components ≡ map index_in list
  pub here : part_of head ≡ part
  pub from : head.from ≡ last_of list + 1
  pub to : head.to ≡ last_of list + length found.logs
  pub harm : IsReplayDamage content name head found.logs list damage

-- the damage was found while the components were merged, which were too many once the logs had been flushed
pub record IsOfMerge {F : Type 0} (content : F → Option (List ℕ)) (name : F → FileName) (part : Partition) (Are : List (ComponentState F) → Type 0) (found : Found) (damage : Damage) : Type 0 where
  pub list : List (ComponentState F)
  pub flushed : AreFlushed Are found list
  pub many : most_listed < length list
  pub harm : IsMergeDamage content name (head_over part.number part.count list) list damage

-- once all of this had been read
abbrev pub IsOfFound : {F : Type 0} → (F → Option (List ℕ)) → (F → FileName) → Partition → (List (ComponentState F) → Type 0) → Found → Damage → Type 0
IsOfFound content name part Are found damage = IsOfLogs content name part Are found damage ⊎ IsOfMerge content name part Are found damage

-- Damage is of some files, or was found while the logs were flushed or the components merged; other numbers are of some files.
abbrev pub IsOpenCause : {F : Type 0} → Type 0 → (F → ℕ) → (F → Option (List ℕ)) → (F → FileName) → Partition → OpenCause → Type 0
IsOpenCause W size content name part (Damaged damage) = IsOfFiles W size name part (files.Damaged damage) ⊎ ((found : Found) × IsOfFound content name part (λ list. Unit {0}) found damage)
IsOpenCause W size content name part (Layout found found_of) = IsOfFiles W size name part (files.Layout found found_of)
IsOpenCause _ _ _ _ _ _ = Unit {0}

-- no generation is left behind those of these components and logs
abbrev pub AreSpent : Found → Type 0
AreSpent found = end_by 0 found.components + length found.logs + 1 ≡ 2 ^ 63

-- ---- where the files are told

-- what is told of damage that is refused
abbrev pub refusal_of : Damage → Refusal
refusal_of (Bytes file place bytes) = breaks file (judging.damage place bytes)
refusal_of (Files names) = clashes names

-- The files are not refused, and of what is read of them this holds.
abbrev pub Passes : Partition → Disk → (Found → Type 0) → Type 0
Passes part disk P = (found : Found) × DiskJudged part disk (Ok found) × P found

-- the files are not refused
abbrev pub ArePassed : Partition → Disk → Type 0
ArePassed part disk = Passes part disk (λ found. Unit {0})

-- Nothing changed but that some files are still, or the files are not refused.
abbrev pub IsUntouched : Partition → List Disk → List Disk → Type 0
IsUntouched part old new = TakesSome old new ⊎ IfTold old (ArePassed part)

-- each tells what the file of its name has on the disk
abbrev pub AreOfDisk : {F : Type 0} → (F → Option (List ℕ)) → Disk → List (ComponentState F) → Type 0
AreOfDisk content disk list = All (λ c. content c.file ≡ content_of (disk (name_of c.index.head))) list

-- What is answered is what is judged of the files; only damage that is found while the logs are flushed or the components
-- merged, and that no generation is left, come where they are not refused. Of a fault of the disk and of want of memory nothing
-- is said here.
abbrev pub CauseJudged : {F : Type 0} → (F → Option (List ℕ)) → (F → FileName) → Partition → Disk → OpenCause → Type 0
CauseJudged content name part disk (Damaged damage) = DiskJudged part disk (Err (refusal_of damage)) ⊎ Passes part disk (λ found. IsOfFound content name part (AreOfDisk content disk) found damage)
CauseJudged content name part disk (Layout found found_of) = DiskJudged part disk (Err (strays found found_of))
CauseJudged content name part disk Spent = Passes part disk AreSpent
CauseJudged _ _ _ _ _ = Unit {0}
