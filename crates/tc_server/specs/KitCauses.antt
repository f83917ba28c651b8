-- What a run over a shelf gives back of its kits, and when a fault of it may be answered: how many kits there are, how their files
-- were judged, and what their watches counted.
use Rattle.std.specs.Prelude.{◌≡◌, ◌≤◌, ◌<◌, ◌⊎◌, ◌-◌, ◌^◌, ℕ, suc, List, [], length, map, Option, Some, None, Err, slice_get, IfSome, IsSomeAnd}
use Rattle.std.specs.Io.KnownBytes.{Consumes}
use Rattle.tc_bytes.specs.Counts.{Rose}
use Rattle.tc_keeper.specs.Standing.{partition_at}
use Rattle.tc_store.specs.Disk.{Disk, IsThere}
use Rattle.tc_store.specs.DiskFile.{DiskFile}
use Rattle.tc_store.specs.KitFaults.{KitFaults}
use Rattle.tc_store.specs.Moments.{IfTold}
use Rattle.tc_store.specs.declared.damage.Damage.{Damage}
use Rattle.tc_store.specs.declared.file_name.FileName.{FileName}
use Rattle.tc_store.specs.declared.file_name.FileName.TheVariants.{Component, Log}
use Rattle.tc_lsm_model.specs.Contents.{Partition}
use Rattle.tc_recover.specs.declared.cause.FilesCause.TheVariants as files
use Rattle.tc_recover.specs.Opening.{DiskJudged}
use Rattle.tc_recover.specs.Refusals.{strays}
use Rattle.tc_open.specs.Judged.{ArePassed, AreSpent, CauseJudged, IsOfFiles, IsOpenCause, IsUntouched, Passes}
use Rattle.tc_open.specs.declared.fault.OpenCause.TheVariants as opening
use Rattle.tc_run_model.specs.Course.{max_input}
use Rattle.tc_server.specs.Ending.{IsRun}
use Rattle.tc_server.specs.OverFiles.{partitions_asked}
use Rattle.tc_keeper.specs.Faults.{IfDisk, IsWrite, NoneFell, OneRose}
use Rattle.tc_keeper.specs.Keeping.{IsMetIn}
use Rattle.tc_keeper.specs.Places.{EachFrom, SomeFrom}
use Rattle.tc_keeper.specs.declared.fault.RunFault.{RunFault}
use Rattle.tc_keeper.specs.declared.fault.RunFault.TheVariants.{Usage, Read, Write, Spent, Disk as DiskFault, Damaged, Memory, Layout}
use Rattle.tc_words.specs.declared.asked.Invocation.{Invocation}

-- ---- which kits were given

-- So many of `count` kits were given in a run that ended so: all where a line may have been read, and none behind that of a
-- partition that was not opened. What is damaged is of the last one, or of any where all were given; the disk may be that of the
-- next one.
abbrev pub AreAsked : ℕ → Option RunFault → ℕ → Type 0
AreAsked count None kits = kits ≡ count
AreAsked count (Some Usage) kits = kits ≡ 0
AreAsked count (Some Read) kits = kits ≡ count
AreAsked count (Some (Write n)) kits = kits ≡ count
AreAsked count (Some Spent) kits = 0 < kits
AreAsked count (Some (DiskFault p)) kits = (p ≤ kits) × (p < count)
AreAsked count (Some (Damaged p damage)) kits = (suc p ≡ kits) ⊎ ((p < kits) × (kits ≡ count))
AreAsked count (Some Memory) kits = Unit {0}
AreAsked count (Some (Layout p found found_of asked_of)) kits = (suc p ≡ kits) × (asked_of ≡ count)

-- ---- files

-- no partition has damage that was met once all were open
abbrev pub nothing_met : Partition → Damage → Type 0
nothing_met here damage = ⊥

-- What is judged of the files of the last kit as they were given. A run comes to its lines only over files that are not refused,
-- and what is refused of them is what is judged, or what opening them found damaged. A run that met damage opened all partitions.
-- Of a fault of the disk and of want of memory nothing is said here.
abbrev pub IsJudged : {F : Type 0} → (Partition → Damage → Type 0) → (F → Option (List ℕ)) → (F → FileName) → Partition → Disk → Option RunFault → Type 0
IsJudged met content name here disk None = ArePassed here disk
IsJudged met content name here disk (Some Read) = ArePassed here disk
IsJudged met content name here disk (Some (Write n)) = ArePassed here disk
IsJudged met content name here disk (Some Spent) = ArePassed here disk
IsJudged met content name here disk (Some (Damaged p damage)) = ((p ≡ here.number) × CauseJudged content name here disk (opening.Damaged damage)) ⊎ (met (partition_at p here.count) damage × (suc here.number ≡ here.count) × ArePassed here disk)
IsJudged met content name here disk (Some (Layout p found found_of asked_of)) = DiskJudged here disk (Err (strays found found_of))
IsJudged _ _ _ _ _ _ = Unit {0}

-- Of the kits that are given back the last one is judged so; the others were opened, since a further one was asked for. Where the files of
-- one are refused in reading, each keeps its bytes.
pub record AreJudged {F : Type 0} (met : Partition → Damage → Type 0) (content : F → Option (List ℕ)) (name : F → FileName) (count : ℕ) (files : ℕ → List Disk) (fault : Option RunFault) (kits : List (List Disk)) : Type 0 where
  pub opened : (p : ℕ) → suc p < length kits → IfTold (files p) (ArePassed (partition_at p count))
  pub last : (p : ℕ) → suc p ≡ length kits → IfTold (files p) (λ disk. IsJudged met content name (partition_at p count) disk fault)
  pub untouched : EachFrom (λ p left. IsUntouched (partition_at p count) (files p) left) 0 kits

-- Also over files that are not told: damage was found while its partition was opened, or is met there once all are open, and other
-- numbers of partitions are those that a file keeps.
abbrev pub HasFilesCause : {F : Type 0} → (Partition → Damage → Type 0) → Type 0 → (F → ℕ) → (F → Option (List ℕ)) → (F → FileName) → ℕ → RunFault → Type 0
HasFilesCause met W size content name count (Damaged p damage) = IsOpenCause W size content name (partition_at p count) (opening.Damaged damage) ⊎ met (partition_at p count) damage
HasFilesCause met W size content name count (Layout p found found_of asked_of) = IsOfFiles W size name (partition_at p asked_of) (files.Layout found found_of)
HasFilesCause met W size content name count fault = Unit {0}

-- ---- numbers that are spent

-- as many bytes were read as can be
abbrev pub HasSpentInput : Option (List ℕ) → Option (List ℕ) → Type 0
HasSpentInput left left' = (input : List ℕ) × Consumes left left' input × (length input ≡ max_input)

-- the numbers of the input were spent, which only a run reads
abbrev pub IsInputSpent : Option Invocation → Option (List ℕ) → Option (List ℕ) → Type 0
IsInputSpent asked left left' = IsRun asked × HasSpentInput left left'

-- a file has the greatest generation
abbrev pub HasLastGeneration : Disk → Type 0
HasLastGeneration disk = IsThere (disk (Log (2 ^ 63 - 1))) ⊎ ((from : ℕ) × IsThere (disk (Component from (2 ^ 63 - 1))))

-- Generations are spent only with a kit: none was left behind its files as they were given, or it has the greatest as it is given
-- back.
abbrev pub AreGenerationsSpent : ℕ → (ℕ → List Disk) → List (List Disk) → Type 0
AreGenerationsSpent count files kits =
    SomeFrom (λ p left. IfTold (files p) (λ disk. Passes (partition_at p count) disk AreSpent) ⊎ IfTold left HasLastGeneration) 0 kits

-- ---- counts

-- no count of a kit fell below that with which it came
abbrev pub NoneFellOf : (ℕ → KitFaults) → List KitFaults → Type 0
NoneFellOf came kits = EachFrom (λ p left. NoneFell (came p) left) 0 kits

-- A fault of the disk of a partition comes only where one of the four watches of its kit counted one, which is given back, or
-- where its kit was not given and the faults of the shelf rose.
abbrev pub HasDiskCauseOver : ℕ → ℕ → (ℕ → KitFaults) → List KitFaults → ℕ → Type 0
HasDiskCauseOver before now came kits p = ((p ≡ length kits) × Rose before now) ⊎ IsSomeAnd (slice_get kits p) (OneRose (came p))

-- ---- together

-- Neither the files nor the counts of the kit of a number were changed.
abbrev pub IsUntaken : (ℕ → List Disk) → (ℕ → List Disk) → (ℕ → KitFaults) → (ℕ → KitFaults) → ℕ → Type 0
IsUntaken files files' came came' p = (files' p ≡ files p) × (came' p ≡ came p)

-- What a run gives back of the kits of a shelf, in ascending number: all of so many where a line may have been read. No count falls.
-- Of those behind them none was asked for but the next one, where the shelf failed. Where none is given back, the shelf is the same,
-- or has failed.
pub record GivesKitsBack {K : Type 0} (is_same : Type 0) (count before now : ℕ) (files files' : ℕ → List Disk) (came came' : ℕ → KitFaults) (fault : Option RunFault) (kits : List K) (counts : K → KitFaults) : Type 0 where
  pub few : length kits ≤ count
  pub asked : AreAsked count fault (length kits)
  pub none_fell : (before ≤ now) × NoneFellOf came (map counts kits)
  pub others : (other : ℕ) → length kits < other → IsUntaken files files' came came' other
  pub next : IsUntaken files files' came came' (length kits) ⊎ ((length kits < count) × Rose before now)
  pub unasked : kits ≡ [] → is_same ⊎ Rose before now

-- When a run for these words may end by a fault. What a source, a sink, a shelf or a disk is blamed for, it counted. What is refused
-- of files is what is judged of them as they came, and damage that is met later is in the partition that is named. Numbers are spent
-- by the input, or by a file.
pub record HasCauseOver {K D F : Type 0} (S W : Type 0) (moments : D → List DiskFile) (content : F → Option (List ℕ)) (name : F → FileName) (size : F → ℕ) (asked : Option Invocation) (left left' : Option (List ℕ)) (reads reads' writes writes' before now : ℕ) (files : ℕ → List Disk) (came : ℕ → KitFaults) (fault : Option RunFault) (kits : List K) (history : K → List Disk) (counts : K → KitFaults) : Type 0 where
  pub usage : fault ≡ Some Usage → asked ≡ None
  pub read : fault ≡ Some Read → Rose reads reads'
  pub write : IfSome fault (λ f. IsWrite f → Rose writes writes')
  pub disk : IfSome fault (λ f. IfDisk f (HasDiskCauseOver before now came (map counts kits)))
  pub judged : AreJudged (IsMetIn S W moments content) content name (partitions_asked asked) files fault (map history kits)
  pub found : IfSome fault (HasFilesCause (IsMetIn S W moments content) W size content name (partitions_asked asked))
  pub spent : fault ≡ Some Spent → IsInputSpent asked left left' ⊎ AreGenerationsSpent (partitions_asked asked) files (map history kits)
