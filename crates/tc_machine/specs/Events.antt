-- What may happen to a partition, and the state that each event leaves.
use Rattle.std.specs.Prelude.{true, false, List, [], ◌∷◌, ◌++◌, length, Option, Some, None}
use Rattle.tc_store.specs.declared.file_name.FileName.{FileName}
use Rattle.tc_store.specs.declared.file_name.FileName.TheVariants.{Log}
use Rattle.tc_store.specs.Disk.{Entry, none, home, put, removed_of, content_of, taken, Picture}
use Rattle.tc_store.specs.DiskFile.{DiskFile, empty_file}
use Rattle.tc_store.specs.Memory.Remains.{left_disk}
use Rattle.tc_plain_model.specs.Writes.{Pairs, Write, after_writes}
use Rattle.tc_lsm_model.specs.Contents.{Content}
use Rattle.tc_lsm_model.specs.Lists.{live}
use Rattle.tc_lsm_model.specs.Tables.{table_over}
use Rattle.tc_lsm_model.specs.Merges.{Run, swapped}
use Rattle.tc_machine.specs.Logs.{all_writes}
use Rattle.tc_machine.specs.Components.{file_of}
use Rattle.tc_machine.specs.State.{Sealed, Active, flush_name, Merging, State, sealed_table, sealed_logs, active_table, table_after, no_writes, history, below_active, next_generation, flushing_of}

pub data Event : Type 0 where
  -- an append of a frame begins, and the frame is committed
  frame_started : List Write → Event
  frame_committed : Event
  -- the memory table is sealed, and the next log becomes the active one
  table_sealed : Event
  -- an opening ends, and the next log becomes the active one
  part_started : Event
  -- a job begins with its fresh device, and what it made is put into the list
  flush_begun : Event
  flush_installed : Content → Event
  merge_begun : Run → Content → Event
  merge_installed : Event
  -- a device is given up, or frozen and not installed
  part_failed : Event
  -- the empty file of the next log is made, or an empty file that nobody will use
  log_made : Event
  file_wasted : FileName → Event
  -- a call of a device leaves this of its file
  device_called : FileName → DiskFile → Event
  -- a file on which nothing is pending never changes any more, and one is removed
  file_frozen : FileName → Event
  file_removed : FileName → Event
  -- a reader takes what there is
  snapshot_taken : Event
  -- a stop leaves a picture, and the opening finds these components and logs in it
  stopped : Picture → List Content → List (List Write) → Event

-- ---- openings

-- the table of what the logs above the components say
abbrev pub replayed : List Content → List (List Write) → Option Sealed
replayed cs [] = None
replayed cs (ws ∷ logs) = Some (record { table = table_over (live cs) (all_writes (ws ∷ logs)); logs = ws ∷ logs })

-- the opening of a picture as these components and logs
abbrev pub opened : Picture → List Content → List (List Write) → State
opened picture cs logs = record {
  base = live cs;
  folded = [];
  list = cs;
  sealed = replayed cs logs;
  active = None;
  frame = None;
  flush = None;
  merge = None;
  making = false;
  failed = false;
  files = left_disk picture;
  snapshots = [];
}

-- ---- single events

abbrev pub committed : Pairs → Option Active → Option (List Write) → Option Active
committed below (Some d) (Some ws) = Some (record { table = table_after below d.table ws; writes = d.writes ++ ws })
committed below active frame = active

abbrev pub sealed_by : Option Active → Option Sealed
sealed_by None = None
sealed_by (Some d) = Some (record { table = d.table; logs = d.writes ∷ [] })

-- the list with the merge that is out in place of its run
abbrev pub with_merge : List Content → Option Merging → List Content
with_merge cs None = cs
with_merge cs (Some m) = swapped m.run m.target cs

-- an empty file in place of what there is
abbrev pub made : Entry → Entry
made entry = home (empty_file (removed_of entry))

-- the state with another entry under a name
abbrev pub with_entry : FileName → Entry → State → State
with_entry name entry s = record s { files = put name entry s.files }

-- with an empty file under a name
abbrev pub with_made : FileName → State → State
with_made name s = with_entry name (made (s.files name)) s

abbrev pub step : Event → State → State
step (frame_started ws) s = record s { frame = Some ws }
step frame_committed s = record s { active = committed (below_active s) s.active s.frame; frame = None }
step table_sealed s = record s { sealed = sealed_by s.active; active = Some no_writes; making = false }
step part_started s = record s { base = after_writes s.base s.folded; folded = []; active = Some no_writes; making = false }
step flush_begun s = with_made (flush_name (flushing_of s)) (record s { flush = Some (flushing_of s) })
step (flush_installed c) s = record s { folded = s.folded ++ all_writes (sealed_logs s.sealed); list = s.list ++ c ∷ []; sealed = None; flush = None }
step (merge_begun run c) s = with_made (file_of c) (record s { merge = Some (record { run = run; target = c }) })
step merge_installed s = record s { list = with_merge s.list s.merge; merge = None }
step part_failed s = record s { failed = true }
step log_made s = with_made (Log (next_generation s)) (record s { making = true })
step (file_wasted name) s = with_made name (record s { failed = true })
step (device_called name f) s = with_entry name (home f) s
step (file_frozen name) s = with_entry name (taken (s.files name)) s
step (file_removed name) s = with_entry name (none (content_of (s.files name))) s
step snapshot_taken s = record s { snapshots = record { number = length (history s); list = s.list; sealed = sealed_table s.sealed; active = active_table s.active } ∷ s.snapshots }
step (stopped picture cs logs) s = opened picture cs logs

-- what is stored stays: the event is neither a commit nor a stop
abbrev pub KeepsStored : Event → Type 0
KeepsStored frame_committed = ⊥
KeepsStored (stopped picture cs logs) = ⊥
KeepsStored _ = Unit {0}

-- the same state, told from what its list holds on
abbrev pub rebased : State → State
rebased s = record s { base = live s.list; folded = []; snapshots = [] }
