-- What is answered over every store: the part that begins, or the kit that is given back. And what is said of lawful files.
use Rattle.std.specs.Prelude.{◌≡◌, ◌⊎◌, ◌≤◌, ◌+◌, ℕ, false, List, [], Option, None, Some, length, Contains}
use Rattle.tc_store.specs.declared.file_name.FileName.{FileName}
use Rattle.tc_store.specs.declared.file_name.FileName.TheVariants.{Log}
use Rattle.tc_store.specs.declared.kit.Kit.{Kit}
use Rattle.tc_store.specs.Counted.{Counts}
use Rattle.tc_store.specs.Disk.{Disk, IsThere}
use Rattle.tc_store.specs.DiskFile.{DiskFile}
use Rattle.tc_store.specs.Moments.{IfTold}
use Rattle.tc_component.specs.Loading.{ComponentState}
use Rattle.tc_jobs.specs.Lists.{file_names}
use Rattle.tc_list.specs.Intervals.{last_of}
use Rattle.tc_lsm_model.specs.Contents.{Content, Partition}
use Rattle.tc_merge.specs.Faults.{IsWatched}
use Rattle.tc_part.specs.declared.limits.Limits.{Limits}
use Rattle.tc_part.specs.FilesOut.{HoldsDevices, LogIsOut}
use Rattle.tc_part.specs.Openings.{newest_in}
use Rattle.tc_part.specs.OwnFiles.{HasOwnFiles}
use Rattle.tc_part_model.specs.Newest.{names_by}
use Rattle.tc_part_model.specs.PartState.{AreTold, PartState, told}
use Rattle.tc_plain_model.specs.Writes.{Write}
use Rattle.tc_recover.specs.Files.{TakesSome}
use Rattle.tc_recover.specs.Lawful.{DiskOpens}
use Rattle.tc_open.specs.BeingOpened.{AreIn}
use Rattle.tc_open.specs.declared.fault.OpenCause.{OpenCause}
use Rattle.tc_open.specs.declared.fault.OpenCause.TheVariants.{Disk as DiskFault}
use Rattle.tc_open.specs.Judged.{IsOpenCause, IsUntouched}
use Rattle.tc_open.specs.Listed.{most_listed}
use Rattle.tc_open.specs.OpenCauses.{IfLayout}

-- where the files are lawful, this holds of all components and logs that they may have
abbrev pub OfLawful : Partition → List Disk → (List Content → List (List Write) → Type 0) → Type 0
OfLawful part disks P = IfTold disks (λ disk. (cs : List Content) (logs : List (List Write)) → DiskOpens part disk cs logs → P cs logs)

-- The part over these components, as it begins: nothing is in its tables, nothing is staged, no job is out, and its log is the one
-- behind them. It has the watches of the kit.
abbrev pub begun_part : {S D F W : Type 0} → (F → Option (List ℕ)) → Partition → Limits → Kit S W D F → List (ComponentState F) → PartState S D F W → PartState S D F W
begun_part content part limits kit list p = record {
  number = part.number;
  count = part.count;
  limits = record { names = limits.names; docs = limits.docs };
  memory = limits.memory;
  store = p.store;
  main = p.main;
  flusher = Some kit.flusher;
  merger = Some kit.merger;
  reader = Some kit.reader;
  list = list;
  sealed = None;
  sealed_log = None;
  active = [];
  log = p.log;
  generation = last_of list + 1;
  staged = [];
  taken = names_by (newest_in content list);
  live = p.live;
  writes = 0;
  flushing = false;
  merging = None;
  failed = false;
}

-- each file that is there is that of one of these components, or has this other name
abbrev pub HasOnlyThese : {F : Type 0} → List (ComponentState F) → FileName → Disk → Type 0
HasOnlyThese list log disk = (name : FileName) → IsThere (disk name) → Contains (file_names list) name ⊎ (name ≡ log)

-- So are the files of a part that begins: it lists few components, which tell where its store does. It has the files of these and that
-- of its log, and no others, and that log alone is out, as its device. No call failed.
pub record Begins {S D F W : Type 0} (history : S → List Disk) (moments : D → List DiskFile) (content : F → Option (List ℕ)) (counts : W → Counts) (kit : Kit S W D F) (p : PartState S D F W) : Type 0 where
  pub components : IfTold (history p.store) (λ disk. AreTold (told history moments content p).components)
  pub few : length p.list ≤ most_listed
  pub own : IfTold (history p.store) (HasOnlyThese p.list (Log p.generation))
  pub has_own : HasOwnFiles (told history moments content p)
  pub log_out : LogIsOut (told history moments content p)
  pub devices : HoldsDevices (told history moments content p)
  pub watched : IsWatched ⊥ (counts kit.main) (counts p.main)

-- So a kit is given back, for this cause: the same but for its store and first watch, with no file out. A refusal in reading leaves
-- each file its bytes. The disk is a cause only where that watch counted a fault.
pub record GivesBack {S D F W : Type 0} (history : S → List Disk) (counts : W → Counts) (size : F → ℕ) (content : F → Option (List ℕ)) (name : F → FileName) (part : Partition) (kit back : Kit S W D F) (cause : OpenCause) : Type 0 where
  pub causes : IsOpenCause W size content name part cause
  pub layout : IfLayout cause (TakesSome (history kit.store) (history back.store))
  pub untouched : IsUntouched part (history kit.store) (history back.store)
  pub home : IfTold (history back.store) AreIn
  pub given_back : back ≡ record kit { store = back.store; main = back.main }
  pub failed : IsWatched (cause ≡ DiskFault) (counts kit.main) (counts back.main)
