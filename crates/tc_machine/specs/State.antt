-- A partition at a moment: what it has in memory, and what its store has under each name.
use Rattle.std.specs.Prelude.{◌≡◌, ℕ, ◌+◌, Bool, false, List, [], ◌∷◌, ◌++◌, length, fold, Option, Some, None, IsSome}
use Rattle.tc_model.specs.Document.{Name}
use Rattle.tc_store.specs.declared.file_name.FileName.{FileName}
use Rattle.tc_store.specs.declared.file_name.FileName.TheVariants.{Component}
use Rattle.tc_store.specs.Disk.{Disk}
use Rattle.tc_plain_model.specs.Writes.{Pairs, Write, after_writes}
use Rattle.tc_plain_model.specs.Store.{names_after}
use Rattle.tc_lsm_model.specs.Contents.{Content}
use Rattle.tc_lsm_model.specs.Lists.{live, names_of, last_of}
use Rattle.tc_lsm_model.specs.Tables.{Table, writes_of, over, shape_in, table_with}
use Rattle.tc_lsm_model.specs.Merges.{Run}
use Rattle.tc_machine.specs.Logs.{all_writes}

-- the memory table that is to be flushed, and the writes of each log that it stands for: of one, but in an opening
pub record Sealed : Type 0 where
  pub table : Table
  pub logs : List (List Write)

-- the memory table that writes go into, and the writes of its log
pub record Active : Type 0 where
  pub table : Table
  pub writes : List Write

-- a flush that is out: the generations of the component that it makes
pub record Flushing : Type 0 where
  pub from : ℕ
  pub to : ℕ

abbrev pub flush_name : Flushing → FileName
flush_name f = Component f.from f.to

-- a merge that is out: its run, and what it makes
pub record Merging : Type 0 where
  pub run : Run
  pub target : Content

-- what a reader took: how many writes it covers, and what there was
pub record Snapshot : Type 0 where
  pub number : ℕ
  pub list : List Content
  pub sealed : Table
  pub active : Table

pub record State : Type 0 where
  -- what was stored at the beginning, and the writes since then that the listed components hold
  pub base : Pairs
  pub folded : List Write
  -- the listed components, the oldest first
  pub list : List Content
  pub sealed : Option Sealed
  -- none while the partition is being opened
  pub active : Option Active
  -- the writes of the frame that is being appended
  pub frame : Option (List Write)
  pub flush : Option Flushing
  pub merge : Option Merging
  -- the file of the next log was made
  pub making : Bool
  -- a device was given up, or a file was made in vain
  pub failed : Bool
  -- a file that is out as a device stands here as one at home
  pub files : Disk
  pub snapshots : List Snapshot

-- ---- tables and logs

abbrev pub sealed_table : Option Sealed → Table
sealed_table None = []
sealed_table (Some d) = d.table

abbrev pub sealed_logs : Option Sealed → List (List Write)
sealed_logs None = []
sealed_logs (Some d) = d.logs

abbrev pub active_table : Option Active → Table
active_table None = []
active_table (Some d) = d.table

abbrev pub active_logs : Option Active → List (List Write)
active_logs None = []
active_logs (Some d) = d.writes ∷ []

-- a table over what is stored below it, after more writes
abbrev pub table_after : Pairs → Table → List Write → Table
table_after below t ws = fold (table_with (shape_in below)) t ws

abbrev pub no_writes : Active
no_writes = record { table = []; writes = [] }

-- the logs that the listed components do not cover
abbrev pub logs : State → List (List Write)
logs s = sealed_logs s.sealed ++ active_logs s.active

-- ---- what is stored

-- all committed writes since the beginning
abbrev pub history : State → List Write
history s = s.folded ++ all_writes (logs s)

-- what is stored: what the committed writes leave
abbrev pub stored_in : State → Pairs
stored_in s = after_writes s.base (history s)

-- what is below the active table: the list, and the sealed table over it
abbrev pub below_active : State → Pairs
below_active s = over (live s.list) (sealed_table s.sealed)

-- what the partition holds: the list, and both tables over it
abbrev pub held : State → Pairs
held s = over (below_active s) (active_table s.active)

abbrev pub held_in : Snapshot → Pairs
held_in p = over (over (live p.list) p.sealed) p.active

-- the names of the newest component and of what both tables hold, where the active one has more writes
abbrev pub names_held : State → List Write → List Name
names_held s more = names_after (names_after (names_of s.list) (writes_of (sealed_table s.sealed))) (writes_of (active_table s.active) ++ more)

-- the writes of the frame
abbrev pub frame_writes : Option (List Write) → List Write
frame_writes None = []
frame_writes (Some ws) = ws

-- ---- what goes on

-- Nothing does, in a run that has not failed: no frame is appended, no job is out, and no next log is made.
pub record IsIdle (s : State) : Type 0 where
  pub running : IsSome s.active
  pub sound : s.failed ≡ false
  pub no_frame : s.frame ≡ None
  pub no_flush : s.flush ≡ None
  pub no_merge : s.merge ≡ None
  pub no_next : s.making ≡ false

-- ---- generations

abbrev pub active_generation : State → ℕ
active_generation s = last_of s.list + length (sealed_logs s.sealed) + 1

-- that of the log that comes next
abbrev pub next_generation : State → ℕ
next_generation s = last_of s.list + length (logs s) + 1

-- those of the flush of the sealed table
abbrev pub flushing_of : State → Flushing
flushing_of s = record { from = last_of s.list + 1; to = last_of s.list + length (sealed_logs s.sealed) }
