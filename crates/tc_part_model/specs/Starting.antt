-- What a part begins with, and which part it is then.
use Rattle.std.specs.Prelude.{◌≡◌, ◌+◌, true, false, List, [], None}
use Rattle.std.specs.List.{AllZip}
use Rattle.tc_store.specs.declared.file_name.FileName.{FileName}
use Rattle.tc_store.specs.declared.file_name.FileName.TheVariants.{Log}
use Rattle.tc_store.specs.Disk.{Disk, home, out, put, is_out}
use Rattle.tc_store.specs.DiskFile.{DiskFile}
use Rattle.tc_store.specs.Moments.{IfTold}
use Rattle.tc_lsm_model.specs.Contents.{Partition, Content}
use Rattle.tc_lsm_model.specs.Lists.{last_of, IsList}
use Rattle.tc_machine.specs.Kept.{IsKept}
use Rattle.tc_machine.specs.State.{no_writes}
use Rattle.tc_part_model.specs.Newest.{newest_index, names_by, documents_by, next_by}
use Rattle.tc_part_model.specs.PartState.{ToldComponent, Told, IsTold}
use Rattle.tc_part_model.specs.PartView.{PartView, state_with}
use Rattle.tc_part_model.specs.Meaning.{IsOfContent}

-- ---- what is handed in

-- as far as it tells: the moments of the store and of the device of the next log, and the components, the oldest first
pub record ToldOpening : Type 0 where
  pub part : Partition
  pub disks : List Disk
  pub log : List DiskFile
  pub components : List ToldComponent

-- the log that the part writes first
abbrev pub first_log : List Content → FileName
first_log list = Log (last_of list + 1)

-- nothing is in its tables, and no job is out
abbrev pub started_part : Partition → List Content → PartView
started_part part list = record { part = part; list = list; sealed = None; active = no_writes; staged = []; flush = None; merge = None }

-- The device of the log is out, and no other. With its file in its place the machine keeps all files: each listed component
-- is there and never changes, the log has no frame, and there is no file that nobody needs.
pub record IsOpenedAt (part : Partition) (list : List Content) (disk : Disk) (log : DiskFile) : Type 0 where
  pub log_out : disk (first_log list) ≡ out
  pub alone : (name : FileName) → is_out (disk name) ≡ true → name ≡ first_log list
  pub kept : IsKept part (state_with (started_part part list) false None (put (first_log list) (home log) disk))

-- The components are those of a list, over every store. Where the store tells its files, they are these, and the log tells.
pub record IsOpened (o : ToldOpening) (list : List Content) : Type 0 where
  pub components : AllZip IsOfContent o.components list
  pub lawful : IsList o.part list
  pub tells : IfTold o.disks (λ disk. IsTold o.log)
  pub files : IfTold o.disks (λ disk. IfTold o.log (λ f. IsOpenedAt o.part list disk f))

-- ---- the part that begins

abbrev pub started : ToldOpening → Told
started o = record {
  part = o.part;
  disks = o.disks;
  log = o.log;
  sealed_log = None;
  generation = next_by (newest_index None o.components);
  components = o.components;
  sealed = None;
  active = [];
  staged = [];
  taken = names_by (newest_index None o.components);
  live = documents_by (newest_index None o.components);
  flushing = false;
  merging = None;
  failed = false;
}
