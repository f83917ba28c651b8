-- What becomes of a part whose table is sealed, or a job of which begins.
use Rattle.std.specs.Prelude.{◌≡◌, ◌+◌, ℕ, true, List, [], Option, None, Some}
use Rattle.std.specs.List.{AllZip}
use Rattle.tc_schema_model.specs.Counted.{nothing}
use Rattle.tc_store.specs.declared.file_name.FileName.{FileName}
use Rattle.tc_store.specs.declared.file_name.FileName.TheVariants.{Log}
use Rattle.tc_store.specs.Disk.{Disk}
use Rattle.tc_store.specs.DiskFile.{DiskFile}
use Rattle.tc_store.specs.StoreCalls.{fresh_file_at, makes}
use Rattle.tc_component.specs.Loaded.{IsLoadedOf}
use Rattle.tc_list.specs.Runs.{in_run, neighbours}
use Rattle.tc_list.specs.declared.run.Run.{Run}
use Rattle.tc_memory.specs.Table.{IsTable}
use Rattle.tc_lsm_model.specs.Contents.{Content}
use Rattle.tc_lsm_model.specs.Merges.{IsMerge, in_run as contents_in_run}
use Rattle.tc_flush.specs.Counting.{IsCounted}
use Rattle.tc_flush.specs.Jobs as flush
use Rattle.tc_merge.specs.Jobs as merge
use Rattle.tc_merge.specs.Merging.{newest_names, newest_schema}
use Rattle.tc_part_model.specs.Calls.{FlushesBehind}
use Rattle.tc_part_model.specs.Changes.{flushing_part, merging_part, sealed_part}
use Rattle.tc_part_model.specs.Leaving.{NextLogMoments}
use Rattle.tc_part_model.specs.Meaning.{IsPart}
use Rattle.tc_part_model.specs.PartState.{AreTold, PartState, told}
use Rattle.tc_part_model.specs.PartView.{PartView, store_of}
use Rattle.tc_part.specs.FilesOut.{LogIsOut}
use Rattle.tc_part.specs.FlushEnds.{flushed_name}
use Rattle.tc_part.specs.JobHeads.{flushed_head, merged_head}
use Rattle.tc_part.specs.MergeEnds.{merged_name, run_out}
use Rattle.tc_part.specs.OwnFiles.{HasOwnFiles}

-- Over every store the active table and its log are sealed, and the file of the next log was made. It is the part whose active
-- table is sealed, which stores what it stored. Each name that is there still is one of its own. A store that tells nothing goes
-- on so, and then the next log tells nothing.
pub record SealsTable {S D F W : Type 0} (disks : S → List Disk) (moments : D → List DiskFile) (content : F → Option (List ℕ)) (old new : PartState S D F W) : Type 0 where
  pub sealed : (p : PartView) → IsPart (told disks moments content old) p → IsPart (told disks moments content new) (sealed_part p) × (store_of (sealed_part p) ≡ store_of p)
  pub same : new ≡ record old { store = new.store; main = new.main; sealed = Some old.active; sealed_log = Some old.log; active = []; log = new.log; generation = old.generation + 1 }
  pub made : disks new.store ≡ makes (Log (old.generation + 1)) (disks old.store)
  pub own : HasOwnFiles (told disks moments content new)
  pub untold_log : disks old.store ≡ [] → moments new.log.device ≡ []
  pub log_out : LogIsOut (told disks moments content new)
  pub next_log : (p : PartView) → IsPart (told disks moments content old) p → NextLogMoments p (moments new.log.device)

-- It is the part whose flush is out, which stores what it stored. The job has the sealed table, which can be over the listed
-- components, what the newest of them has beside its records, the header behind the list, the flusher's watch, and a device of
-- that name, whose file was just made. Where the listed files are told, what it makes is what a flush of the part makes.
pub record BeginsFlush {S D F W : Type 0} (disks : S → List Disk) (moments : D → List DiskFile) (content : F → Option (List ℕ)) (name_of : D → FileName) (job : flush.JobState D W) (old new : PartState S D F W) : Type 0 where
  pub begun : (p : PartView) → IsPart (told disks moments content old) p → IsPart (told disks moments content new) (flushing_part p) × (store_of (flushing_part p) ≡ store_of p)
  pub same : new ≡ record old { store = new.store; main = new.main; flusher = None; flushing = true }
  pub table : Some job.kept ≡ old.sealed
  pub lawful : IsTable job.kept
  pub names : job.names ≡ newest_names [] old.list
  pub schema : job.schema ≡ newest_schema nothing old.list
  pub can : IsCounted (newest_names [] old.list) (newest_schema nothing old.list) job.kept
  pub head : job.head ≡ flushed_head old.number old.count old.generation
  pub watch : Some job.watch ≡ old.flusher
  pub name : name_of job.device ≡ flushed_name old
  pub file : moments job.device ≡ fresh_file_at (flushed_name old) (disks old.store)
  pub made : disks new.store ≡ makes (flushed_name old) (disks old.store)
  pub own : HasOwnFiles (told disks moments content new)
  pub log_out : LogIsOut (told disks moments content old) → LogIsOut (told disks moments content new)
  pub behind : (p : PartView) → IsPart (told disks moments content old) p → AreTold (told disks moments content old).components → FlushesBehind p job.head job.names job.schema job.kept

-- So of a merge, whose job has the components of the run, the header over them, and the merger's watch. Where the listed files
-- are told, what it merges is the run of the part's contents.
pub record BeginsMerge {S D F W : Type 0} (disks : S → List Disk) (moments : D → List DiskFile) (content : F → Option (List ℕ)) (name_of : D → FileName) (run : Run) (job : merge.JobState F D W) (old new : PartState S D F W) : Type 0 where
  pub begun : (p : PartView) (c : Content) → IsPart (told disks moments content old) p → IsMerge (contents_in_run (neighbours run) p.list) c
      → IsPart (told disks moments content new) (merging_part (neighbours run) c p) × (store_of (merging_part (neighbours run) c p) ≡ store_of p)
  pub same : new ≡ record old { store = new.store; main = new.main; merger = None; merging = Some (neighbours run) }
  pub out : run_out new ≡ run
  pub components : job.run ≡ in_run run old.list
  pub head : job.head ≡ merged_head old.number old.count run old.list
  pub watch : Some job.watch ≡ old.merger
  pub name : name_of job.device ≡ merged_name run old
  pub file : moments job.device ≡ fresh_file_at (merged_name run old) (disks old.store)
  pub made : disks new.store ≡ makes (merged_name run old) (disks old.store)
  pub own : HasOwnFiles (told disks moments content new)
  pub log_out : LogIsOut (told disks moments content old) → LogIsOut (told disks moments content new)
  pub loaded : (p : PartView) → IsPart (told disks moments content old) p → AreTold (told disks moments content old).components → AllZip (IsLoadedOf content) job.run (contents_in_run (neighbours run) p.list)
