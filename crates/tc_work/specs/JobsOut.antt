-- The jobs of a part that are out: what ties them to it.
use Rattle.std.specs.Prelude.{◌≡◌, ◌≤◌, ℕ, Bool, true, false, List, length, map, take, Option, Some, None, is_some, IfSome}
use Rattle.std.specs.List.{AllZip}
use Rattle.tc_store.specs.declared.file_name.FileName.{FileName}
use Rattle.tc_store.specs.Disk.{Disk}
use Rattle.tc_store.specs.DiskFile.{DiskFile}
use Rattle.tc_store.specs.Moments.{IfTold, LeavesAt}
use Rattle.tc_store.specs.StoreCalls.{fresh_file_at}
use Rattle.tc_component.specs.Loaded.{IsLoadedOf}
use Rattle.tc_component.specs.Loading.{ComponentState}
use Rattle.tc_component.specs.Rows.{IsComponent, part_of}
use Rattle.tc_flush.specs.Flushing.{IsBehind}
use Rattle.tc_flush.specs.Jobs as flush
use Rattle.tc_list.specs.Policies.{IsPicked}
use Rattle.tc_list.specs.Runs.{in_run}
use Rattle.tc_list.specs.declared.policy.Policy.{Policy}
use Rattle.tc_list.specs.declared.run.Run.{Run}
use Rattle.tc_lsm_model.specs.Contents.{Content, IsContent, Partition}
use Rattle.tc_lsm_model.specs.Merges.{IsMerge, Run as Neighbours, in_run as contents_in_run}
use Rattle.tc_machine.specs.Components.{file_of}
use Rattle.tc_machine.specs.State.{Flushing, Merging, Sealed, flush_name}
use Rattle.tc_machine.specs.Steps.{IsFlushed, IsShutOrHas}
use Rattle.tc_memory.specs.Table.{IsTable}
use Rattle.tc_merge.specs.Jobs as merge
use Rattle.tc_merge.specs.Merging.{AreTold}
use Rattle.tc_part.specs.FlushEnds.{flushed_name}
use Rattle.tc_part.specs.JobHeads.{flushed_head, merged_head}
use Rattle.tc_part.specs.MergeEnds.{merged_name, positions, run_out}
use Rattle.tc_part.specs.Ready.{LiesIn}
use Rattle.tc_part_model.specs.PartState.{PartState, IsTold}
use Rattle.tc_part_model.specs.PartView.{PartView}
use Rattle.tc_running.specs.Jobs.{JobsState}

-- ---- over every store

-- exactly where one is out there is one, and this holds of it
abbrev pub OutAs : {J : Type 0} → Bool → Option J → (J → Type 0) → Type 0
OutAs false None P = Unit {0}
OutAs false (Some job) P = ⊥
OutAs true None P = ⊥
OutAs true (Some job) P = P job

-- A device was made under this name in a store that told its files then, where it tells them now.
pub record IsMadeIn (name : FileName) (disks : List Disk) (device : List DiskFile) : Type 0 where
  pub was : List Disk
  pub made : device ≡ fresh_file_at name was
  pub told : IfTold disks (λ disk. IsTold was)

-- a flush of the sealed table, whose log is sealed with it, under the header and the name of what that makes
pub record IsFlushOf {S D F W : Type 0} (disks : S → List Disk) (history : D → List DiskFile) (name_of : D → FileName) (part : PartState S D F W) (job : flush.JobState D W) : Type 0 where
  pub table : Some job.kept ≡ part.sealed
  pub log : is_some part.sealed_log ≡ true
  pub lawful : IsTable job.kept
  pub head : job.head ≡ flushed_head part.number part.count part.generation
  pub name : name_of job.device ≡ flushed_name part
  pub device : IsMadeIn (flushed_name part) (disks part.store) (history job.device)

-- A merge of the run that is out, under the header and the name of what that makes. The files of the run are told where its device
-- was.
pub record IsMergeOf {S D F W : Type 0} (disks : S → List Disk) (history : D → List DiskFile) (content : F → Option (List ℕ)) (name_of : D → FileName) (part : PartState S D F W) (job : merge.JobState F D W) : Type 0 where
  pub within : LiesIn part.list (run_out part)
  pub run : job.run ≡ in_run (run_out part) part.list
  pub head : job.head ≡ merged_head part.number part.count (run_out part) part.list
  pub name : name_of job.device ≡ merged_name (run_out part) part
  pub device : IsMadeIn (merged_name (run_out part) part) (disks part.store) (history job.device)
  pub run_told : IfTold device.was (λ disk. AreTold content job.run)

-- These are exactly the jobs of the part that are out.
pub record AreOut {S D F W : Type 0} (disks : S → List Disk) (history : D → List DiskFile) (content : F → Option (List ℕ)) (name_of : D → FileName) (part : PartState S D F W) (jobs : JobsState F D W) : Type 0 where
  pub flush : OutAs part.flushing jobs.flush (IsFlushOf disks history name_of part)
  pub merge : OutAs (is_some part.merging) jobs.merge (IsMergeOf disks history content name_of part)

-- ---- by which policy

-- the policy picked the run by the sizes of so many that are listed: of those that were when its merge began
pub record IsPickedFrom {F : Type 0} (policy : Policy) (size : F → ℕ) (list : List (ComponentState F)) (run : Run) : Type 0 where
  pub listed : ℕ
  pub within : listed ≤ length list
  pub picked : IsPicked policy (map (λ c. size c.file) (take listed list)) run

-- so of the run whose merge is out
abbrev pub IsPickedOut : {F : Type 0} → Policy → (F → ℕ) → List (ComponentState F) → Option Neighbours → Type 0
IsPickedOut policy size list None = Unit {0}
IsPickedOut policy size list (Some run) = IsPickedFrom policy size list (positions (Some run))

-- ---- where the files are told: of a part that is seen in documents

-- Such a flush is out, and makes what the part flushes: the component of its sealed table behind its list. What its device had at
-- first may be left of it.
pub record FlushesFor {D W : Type 0} (history : D → List DiskFile) (name_of : D → FileName) (part : Partition) (list : List Content) (sealed : Option Sealed) (out : Option Flushing) (job : flush.JobState D W) : Type 0 where
  pub flushing : Flushing
  pub is_out : out ≡ Some flushing
  pub name : flush_name flushing ≡ name_of job.device
  pub table : Sealed
  pub is_sealed : sealed ≡ Some table
  pub one_log : length table.logs ≡ 1
  pub here : part_of job.head ≡ part
  pub behind : IsBehind list table.table 1 job.head job.names job.schema job.kept
  pub device : IfTold (history job.device) (LeavesAt (IsShutOrHas (IsFlushed part list sealed)))

-- Such a merge is out, of components that have these contents, and makes the one that the part waits for.
pub record MergesFor {F D W : Type 0} (content : F → Option (List ℕ)) (history : D → List DiskFile) (name_of : D → FileName) (list : List Content) (out : Option Merging) (job : merge.JobState F D W) : Type 0 where
  pub merging : Merging
  pub is_out : out ≡ Some merging
  pub name : file_of merging.target ≡ name_of job.device
  pub loaded : AllZip (IsLoadedOf content) job.run (contents_in_run merging.run list)
  pub is_merge : IsMerge (contents_in_run merging.run list) merging.target
  pub is_content : IsContent merging.target
  pub device : IfTold (history job.device) (LeavesAt (IsShutOrHas (IsComponent merging.target)))

-- The jobs that are out work for this part. They still do once something is staged or committed.
abbrev pub WorkFor : {F D W : Type 0} → (F → Option (List ℕ)) → (D → List DiskFile) → (D → FileName) → JobsState F D W → PartView → Type 0
WorkFor content history name_of jobs p = IfSome jobs.flush (FlushesFor history name_of p.part p.list p.sealed p.flush) × IfSome jobs.merge (MergesFor content history name_of p.list p.merge)

-- ---- watches

-- The watch that a part has of a job, or the one that the job has, as it went out with it.
abbrev pub flusher_of : {D W : Type 0} → Option W → Option (flush.JobState D W) → Option W
flusher_of at_home None = at_home
flusher_of at_home (Some job) = Some job.watch

abbrev pub merger_of : {F D W : Type 0} → Option W → Option (merge.JobState F D W) → Option W
merger_of at_home None = at_home
merger_of at_home (Some job) = Some job.watch

-- the part with all its watches
abbrev pub watched_part : {S D F W : Type 0} → PartState S D F W → JobsState F D W → PartState S D F W
watched_part part jobs = record part { flusher = flusher_of part.flusher jobs.flush; merger = merger_of part.merger jobs.merge }
