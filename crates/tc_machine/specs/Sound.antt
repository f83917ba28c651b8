-- What holds of a partition at every moment, whatever happened before and wherever a stop fell.
use Rattle.std.specs.Prelude.{◌≡◌, ◌≤◌, ◌<◌, ◌⊎◌, ℕ, ◌+◌, true, List, [], ◌∷◌, ◌++◌, length, take, Option, Some, None, All, IfSome, IsSome}
use Rattle.tc_store.specs.declared.file_name.FileName.{FileName}
use Rattle.tc_store.specs.declared.file_name.FileName.TheVariants.{Component, Log}
use Rattle.tc_store.specs.Disk.{Disk, MayLeaveAt, Picture, IsPictureOf}
use Rattle.tc_store.specs.Gate.{is_open_file}
use Rattle.tc_store.specs.Images.{Image}
use Rattle.tc_plain_model.specs.Writes.{Pairs, Write, after_writes}
use Rattle.tc_lsm_model.specs.Contents.{Partition, Content}
use Rattle.tc_lsm_model.specs.Lists.{Covers, live, last_of, IsList}
use Rattle.tc_lsm_model.specs.Tables.{KeepsShapes}
use Rattle.tc_lsm_model.specs.Merges.{in_run, IsMerge}
use Rattle.tc_component.specs.Rows.{IsComponent}
use Rattle.tc_machine.specs.Logs.{IsLog, LeavesLog, HasLogHead, all_writes}
use Rattle.tc_machine.specs.Components.{file_of, LeavesComponent, IsStillComponent, HasComponentHead}
use Rattle.tc_machine.specs.Pictures.{Opens, Recovers}
use Rattle.tc_machine.specs.State.{Sealed, Flushing, flush_name, Merging, State, sealed_table, sealed_logs, active_table, history, stored_in, below_active, held, held_in, active_generation, next_generation}
use Rattle.tc_machine.specs.Events.{Event, opened}
use Rattle.tc_machine.specs.Steps.{nothing_held, IsShutOrHas, LeavesWithOrWithout, IsFlushed, IsOfFlush, IsOfMerge}
use Rattle.tc_machine.specs.Runs.{Runs}

-- what is stored without the frame, or with it
abbrev pub IsWithOrWithout : Pairs → Option (List Write) → Pairs → Type 0
IsWithOrWithout pairs None stored = stored ≡ pairs
IsWithOrWithout pairs (Some ws) stored = (stored ≡ pairs) ⊎ (stored ≡ after_writes pairs ws)

-- ---- files

-- each stop leaves this under a name
abbrev pub LeavesOf : Disk → FileName → (Image → Type 0) → Type 0
LeavesOf files name P = (image : Image) → MayLeaveAt (nothing_held name) (files name) image → P image

-- the logs from a generation on are there
abbrev pub LeavesLogs : Partition → Disk → ℕ → List (List Write) → Type 0
LeavesLogs part files generation [] = Unit {0}
LeavesLogs part files generation (ws ∷ more) = LeavesOf files (Log generation) (LeavesLog part generation ws) × LeavesLogs part files (generation + 1) more

-- the active log is there, without the frame that is appended or with it
abbrev pub LeavesActive : Partition → ℕ → List Write → Option (List Write) → Image → Type 0
LeavesActive part generation ws None = LeavesLog part generation ws
LeavesActive part generation ws (Some frame) = LeavesWithOrWithout part generation ws frame

-- what the flush makes, and what the merge makes
abbrev pub IsFlushTarget : Partition → List Content → Option Sealed → Option Flushing → ℕ → ℕ → List ℕ → Type 0
IsFlushTarget part cs sealed flush from to bytes = IsOfFlush flush from to × IsFlushed part cs sealed bytes

abbrev pub IsMergeTarget : Option Merging → ℕ → ℕ → List ℕ → Type 0
IsMergeTarget None from to bytes = ⊥
IsMergeTarget (Some m) from to bytes = IsOfMerge (Some m) from to × IsComponent m.target bytes

-- Why a file may be open. A component lies within a listed one, which listed ones do, or it is what a job makes. A log is
-- covered by the list, or is one of those outside of it, or is the next one, without a frame.
abbrev pub IsExplained : Partition → State → FileName → List ℕ → Type 0
IsExplained part s (Component from to) bytes =
    (Covers s.list from to × HasComponentHead part from to bytes) ⊎ (IsFlushTarget part s.list s.sealed s.flush from to bytes ⊎ IsMergeTarget s.merge from to bytes)
IsExplained part s (Log generation) bytes =
    ((generation ≤ last_of s.list) × HasLogHead part generation bytes)
    ⊎ (((last_of s.list < generation) × (generation < next_generation s)) ⊎ ((generation ≡ next_generation s) × IsLog part generation [] bytes))

pub record AreFilesSound (part : Partition) (s : State) : Type 0 where
  -- each listed component is there, and never changes, but in an opening
  pub listed : All (λ c. LeavesOf s.files (file_of c) (LeavesComponent c)) s.list
  pub still : IsSome s.active → All (λ c. IsStillComponent c (s.files (file_of c))) s.list
  -- the logs outside of the list are there
  pub sealed_logs : LeavesLogs part s.files (last_of s.list + 1) (sealed_logs s.sealed)
  pub active_log : IfSome s.active (λ d. LeavesOf s.files (Log (active_generation s)) (LeavesActive part (active_generation s) d.writes s.frame))
  -- every open file has its reason
  pub others : (name : FileName) (bytes : List ℕ) → MayLeaveAt (nothing_held name) (s.files name) (Some bytes) → is_open_file bytes ≡ true → IsExplained part s name bytes
  -- the file of a job is absent, closed or whole
  pub flush_file : IfSome s.flush (λ j. LeavesOf s.files (flush_name j) (IsShutOrHas (IsFlushed part s.list s.sealed)))
  pub merge_file : IfSome s.merge (λ m. LeavesOf s.files (file_of m.target) (IsShutOrHas (IsComponent m.target)))

-- ---- jobs

-- a flush is of the sealed table, behind the list
pub record Flushes (cs : List Content) (d : Sealed) (f : Flushing) : Type 0 where
  pub some : 0 < length d.logs
  pub from : f.from ≡ last_of cs + 1
  pub to : f.to ≡ last_of cs + length d.logs

abbrev pub IsFlushOf : List Content → Option Sealed → Option Flushing → Type 0
IsFlushOf cs sealed None = Unit {0}
IsFlushOf cs None (Some f) = ⊥
IsFlushOf cs (Some d) (Some f) = Flushes cs d f

-- ---- all of it

pub record IsSound (part : Partition) (s : State) : Type 0 where
  -- the components tile the generations, their names extend, and their schemas stand for what is live
  pub list : IsList part s.list
  -- each entry of a table keeps the shape of what its key has below
  pub sealed_shapes : KeepsShapes (live s.list) (sealed_table s.sealed)
  pub active_shapes : KeepsShapes (below_active s) (active_table s.active)
  -- list and tables hold what all writes leave, and so does each snapshot for its number of them
  pub holds : held s ≡ stored_in s
  pub list_holds : live s.list ≡ after_writes s.base s.folded
  pub sealed_holds : below_active s ≡ after_writes s.base (s.folded ++ all_writes (sealed_logs s.sealed))
  pub snapshots : All (λ p. held_in p ≡ after_writes s.base (take p.number (history s))) s.snapshots
  -- the jobs that are out make the flush of the sealed table, and a merge of neighbours
  pub flush : IsFlushOf s.list s.sealed s.flush
  pub merge : IfSome s.merge (λ m. IsMerge (in_run m.run s.list) m.target)
  pub files : AreFilesSound part s
  -- whatever a stop leaves is lawful, and what is stored in it is what all writes leave, with or without the frame
  pub pictures : (picture : Picture) → IsPictureOf nothing_held s.files picture → Recovers part picture (IsWithOrWithout (stored_in s) s.frame)

-- Whatever the events, and wherever the stops among them: from the opening of a lawful picture on, each state is sound.
abbrev pub EveryRunIsSound : Type 0
EveryRunIsSound =
    (part : Partition) (picture : Picture) (cs : List Content) (ls : List (List Write)) → Opens part picture cs ls
    → (events : List Event) (s : State) → Runs part (opened picture cs ls) events s → IsSound part s
