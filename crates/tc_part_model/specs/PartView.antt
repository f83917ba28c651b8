-- A part in documents: what it has in memory, as a state of the machine of a partition.
use Rattle.std.specs.Prelude.{ℕ, Bool, false, List, [], Option, Some, None, All}
use Rattle.tc_model.specs.Document.{Name}
use Rattle.tc_store.specs.Disk.{Disk, none}
use Rattle.tc_plain_model.specs.Writes.{Pairs, Write, after_writes}
use Rattle.tc_lsm_model.specs.Contents.{Partition, Content}
use Rattle.tc_lsm_model.specs.Lists.{live}
use Rattle.tc_lsm_model.specs.Tables.{Table}
use Rattle.tc_machine.specs.Writes.{IsStorableWrite, HasRoom, AreFew}
use Rattle.tc_machine.specs.State.{State, Sealed, Active, Flushing, Merging, stored_in, held, below_active, active_generation, next_generation, names_held, table_after}

-- what is staged is in no log yet
pub record PartView : Type 0 where
  pub part : Partition
  pub list : List Content
  pub sealed : Option Sealed
  pub active : Active
  pub staged : List Write
  pub flush : Option Flushing
  pub merge : Option Merging

-- the state of the machine, told from what the list holds on, with the frame that is appended and with these files
abbrev pub state_with : PartView → Bool → Option (List Write) → Disk → State
state_with p failed frame files = record {
  base = live p.list;
  folded = [];
  list = p.list;
  sealed = p.sealed;
  active = Some p.active;
  frame = frame;
  flush = p.flush;
  merge = p.merge;
  making = false;
  failed = failed;
  files = files;
  snapshots = [];
}

abbrev pub no_files : Disk
no_files name = none None

-- the state without its files
abbrev pub state_of : PartView → State
state_of p = state_with p false None no_files

-- what is committed, and what is stored with what is staged
abbrev pub store_of : PartView → Pairs
store_of p = stored_in (state_of p)

abbrev pub stored_with : PartView → Pairs
stored_with p = after_writes (store_of p) p.staged

-- that of the active log, and of the log that comes next
abbrev pub generation_of : PartView → ℕ
generation_of p = active_generation (state_of p)

abbrev pub next_of : PartView → ℕ
next_of p = next_generation (state_of p)

-- what lies below the active table
abbrev pub below_of : PartView → Pairs
below_of p = below_active (state_of p)

-- the active table with what is staged
abbrev pub table_of : PartView → Table
table_of p = table_after (below_of p) p.active.table p.staged

-- the names of the newest component and of the documents in both tables
abbrev pub names_in : PartView → List Name
names_in p = names_held (state_of p) p.staged

-- what is staged may go into the log as one frame
pub record MayStart (p : PartView) : Type 0 where
  pub each : All IsStorableWrite p.staged
  pub room : HasRoom (after_writes (held (state_of p)) p.staged)
  pub few : AreFew (names_in p)
