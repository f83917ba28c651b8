-- What holds of a job that has run, by what it was when it began and by what is left of it.
use Rattle.std.specs.Prelude.{◌≡◌, ◌<◌, ◌≤◌, ◌+◌, ◌^◌, ℕ, List, [], Option, Result, All, IfErr, IsErrOf, IsOk}
use Rattle.std.specs.List.{AllZip}
use Rattle.tc_component.specs.Loaded.{IsLoadedOf}
use Rattle.tc_component.specs.Rows.{component_bytes, part_of, IsShortWrite}
use Rattle.tc_flush.specs.Flushing.{IsBehind, flush_bytes}
use Rattle.tc_flush.specs.Jobs as flush
use Rattle.tc_lsm_model.specs.Contents.{Content}
use Rattle.tc_lsm_model.specs.Flushes.{IsFlush}
use Rattle.tc_lsm_model.specs.Merges.{IsMerge}
use Rattle.tc_lsm_model.specs.Tables.{Table}
use Rattle.tc_memory.specs.DocumentTables.{IsTableOf}
use Rattle.tc_merge.specs.declared.fault.MergeFault.{MergeFault}
use Rattle.tc_merge.specs.declared.fault.MergeFault.TheVariants as merge_fault
use Rattle.tc_merge.specs.Faults.{IfHarmed, IsHarmIn, IsJudged, IsWatched}
use Rattle.tc_merge.specs.Jobs as merge
use Rattle.tc_merge.specs.Merging.{AreTold, live_rows, merge_bytes, merged_rows}
use Rattle.tc_store.specs.Counted.{Counts, IsCounted}
use Rattle.tc_store.specs.declared.fault.DeviceFault.{DeviceFault}
use Rattle.tc_store.specs.declared.fault.DeviceFault.TheVariants as device_fault
use Rattle.tc_store.specs.declared.file_name.FileName.{FileName}
use Rattle.tc_store.specs.DiskFile.{DiskFile, settled_file}
use Rattle.tc_store.specs.Gate.{IsShutOr, IsShutOrWhole}
use Rattle.tc_store.specs.Images.{Image}
use Rattle.tc_store.specs.Moments.{IfTold, LeavesAt, LeavesOnly}

-- A flush has run. On Ok its device has the bytes that it makes, and nothing is pending; at each moment the file was absent,
-- closed, the one before, or this one. The fields are those of the contract of `FlushJob::run`.
pub record HasFlushed {D W : Type 0} (history : D → List DiskFile) (length_of : D → ℕ) (name_of : D → FileName) (counts : W → Counts) (job : flush.JobState D W) (watch : W) (device : D) (outcome : Result (Unit {0}) DeviceFault) : Type 0 where
  pub whole : IsOk outcome → (t : Table) → IsTableOf t job.kept → IfTold (history device) (λ f. f ≡ settled_file (flush_bytes job.head job.names job.schema t))
  pub flushed : (cs : List Content) (t : Table) (generations : ℕ) → IsBehind cs t generations job.head job.names job.schema job.kept
      → (c : Content) × IsFlush (part_of job.head) cs t generations c × All IsShortWrite c.entries × (component_bytes c ≡ flush_bytes job.head job.names job.schema t)
  pub moments : (before : Image) (t : Table) → IsTableOf t job.kept → IfTold (history job.device) (LeavesAt (IsShutOr before))
      → LeavesOnly (IsShutOrWhole before (flush_bytes job.head job.names job.schema t)) (history job.device) (history device)
  pub size : IsOk outcome → length_of device < 2 ^ 63
  pub name : name_of device ≡ name_of job.device
  pub watched : IsCounted (IsErrOf outcome device_fault.Fault) (counts job.watch) (counts watch)

-- So has a merge. What it made is a function of what the files of its run tell, each record of which was judged.
pub record HasMerged {F D W : Type 0} (content : F → Option (List ℕ)) (history : D → List DiskFile) (length_of : D → ℕ) (name_of : D → FileName) (counts : W → Counts) (job : merge.JobState F D W) (watch : W) (device : D) (outcome : Result (Unit {0}) MergeFault) : Type 0 where
  pub whole : IsOk outcome → AreTold content job.run → IfTold (history device) (λ f. f ≡ settled_file (merge_bytes content job.head job.run))
  pub merged : (cs : List Content) → AllZip (IsLoadedOf content) job.run cs
      → (c : Content) × IsMerge cs c × All IsShortWrite c.entries × (component_bytes c ≡ merge_bytes content job.head job.run)
  pub judged : IsOk outcome → AreTold content job.run → All (IsJudged content job.run) (merged_rows content job.head.from job.run)
  pub moments : (before : Image) → AreTold content job.run → IfTold (history job.device) (LeavesAt (IsShutOr before))
      → LeavesOnly (IsShutOrWhole before (merge_bytes content job.head job.run)) (history job.device) (history device)
  pub untold : history job.device ≡ [] → history device ≡ []
  pub damaged : IfErr outcome (λ fault. IfHarmed fault (λ file place bytes. IsHarmIn content job.run file place bytes))
  pub size : IsOk outcome → length_of device < 2 ^ 63
  pub name : name_of device ≡ name_of job.device
  pub reads : IsOk outcome → (counts watch).reads ≤ (counts job.watch).reads + live_rows (merged_rows content job.head.from job.run)
  pub watched : IsWatched (IsErrOf outcome merge_fault.Disk) (counts job.watch) (counts watch)
