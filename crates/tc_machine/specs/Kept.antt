-- What each event keeps, from which it follows that every state is sound: the tables are those that the writes of the
-- logs make over the list.
use Rattle.std.specs.Prelude.{◌≡◌, ◌≢◌, ◌≤◌, ◌<◌, ◌+◌, false, List, [], length, take, None, All, IfSome, IsSome}
use Rattle.tc_model.specs.Keyed.{Ascends}
use Rattle.tc_store.specs.declared.file_name.FileName.TheVariants.{Log}
use Rattle.tc_plain_model.specs.Writes.{Pairs, Write, after_writes}
use Rattle.tc_lsm_model.specs.Contents.{Partition, Content}
use Rattle.tc_lsm_model.specs.Lists.{live, IsList}
use Rattle.tc_lsm_model.specs.Tables.{table_over}
use Rattle.tc_lsm_model.specs.Merges.{in_run, IsMerge}
use Rattle.tc_machine.specs.Writes.{IsStorableWrite, HasRoom, AreFew}
use Rattle.tc_machine.specs.Logs.{all_writes}
use Rattle.tc_machine.specs.Components.{file_of}
use Rattle.tc_machine.specs.State.{Merging, Snapshot, State, logs, history, stored_in, below_active, held_in, names_held, frame_writes, next_generation}
use Rattle.tc_machine.specs.Steps.{AreExpected, IsShutOrHas}
use Rattle.tc_machine.specs.Sound.{IsFlushOf, AreFilesSound, LeavesOf}

-- a merge of two neighbours of the list or more, whose name no listed component has
pub record MergeFits (cs : List Content) (m : Merging) : Type 0 where
  pub is_merge : IsMerge (in_run m.run cs) m.target
  pub two : 2 ≤ m.run.length
  pub within : m.run.first + m.run.length ≤ length cs
  pub apart : All (λ c. file_of c ≢ file_of m.target) cs

-- a snapshot holds what the first of these writes leave
pub record SnapshotFits (base : Pairs) (ws : List Write) (p : Snapshot) : Type 0 where
  pub within : p.number ≤ length ws
  pub holds : held_in p ≡ after_writes base (take p.number ws)

-- What holds of list, tables, writes and jobs, whatever the files are.
pub record IsMemoryKept (part : Partition) (s : State) : Type 0 where
  pub base : Ascends s.base
  pub list : IsList part s.list
  pub list_holds : live s.list ≡ after_writes s.base s.folded
  pub sealed : IfSome s.sealed (λ d. d.table ≡ table_over (live s.list) (all_writes d.logs))
  pub active : IfSome s.active (λ d. d.table ≡ table_over (below_active s) d.writes)
  -- a frame is appended only in a run, and no snapshot outlives one
  pub running : IsSome s.frame → IsSome s.active
  pub no_reader : s.active ≡ None → s.snapshots ≡ []
  -- what may be written, and the room that there is without the frame and with it
  pub writes : All IsStorableWrite (all_writes (logs s))
  pub frame : All IsStorableWrite (frame_writes s.frame)
  pub room : HasRoom (stored_in s)
  pub frame_room : HasRoom (after_writes (stored_in s) (frame_writes s.frame))
  pub few : AreFew (names_held s [])
  pub frame_few : AreFew (names_held s (frame_writes s.frame))
  pub some_log : IfSome s.sealed (λ d. 0 < length d.logs)
  pub flush : IsFlushOf s.list s.sealed s.flush
  pub merge : IfSome s.merge (MergeFits s.list)
  pub snapshots : All (SnapshotFits s.base (history s)) s.snapshots

-- no file in the place of the next log is open, nor may one come back that is
abbrev pub IsNextLogShut : State → Type 0
IsNextLogShut s = LeavesOf s.files (Log (next_generation s)) (IsShutOrHas (λ bytes. ⊥))

pub record IsKept (part : Partition) (s : State) : Type 0 where
  pub memory : IsMemoryKept part s
  pub files : AreFilesSound part s
  -- in a run that has not failed, no other file is there
  pub expected : IsSome s.active → s.failed ≡ false → AreExpected s
  pub next_log : IsSome s.active → s.failed ≡ false → s.making ≡ false → IsNextLogShut s
