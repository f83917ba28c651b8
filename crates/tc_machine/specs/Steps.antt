-- When an event may come: the conditions of the calls that make it.
use Rattle.std.specs.Prelude.{◌≡◌, ◌≢◌, ◌≤◌, ◌<◌, ◌⊎◌, ◌^◌, ℕ, ◌+◌, true, false, List, [], ◌++◌, length, Option, Some, None, All, IsSome}
use Rattle.tc_store.specs.declared.file_name.FileName.{FileName}
use Rattle.tc_store.specs.declared.file_name.FileName.TheVariants.{Component, Log}
use Rattle.tc_store.specs.Disk.{Entry, none, home, still, IsThere, Picture, IsPictureOf}
use Rattle.tc_store.specs.DiskFile.{DiskFile, IsSettled}
use Rattle.tc_store.specs.Gate.{is_open_file}
use Rattle.tc_store.specs.Images.{Image}
use Rattle.tc_store.specs.Moments.{LeavesAt}
use Rattle.tc_plain_model.specs.Writes.{Write, after_writes}
use Rattle.tc_lsm_model.specs.Contents.{Partition, Content}
use Rattle.tc_lsm_model.specs.Lists.{Covers, last_of}
use Rattle.tc_lsm_model.specs.Flushes.{IsFlush}
use Rattle.tc_lsm_model.specs.Merges.{Run, in_run, IsMerge}
use Rattle.tc_component.specs.Rows.{IsComponent}
use Rattle.tc_machine.specs.Writes.{IsStorableWrite, HasRoom, AreFew}
use Rattle.tc_machine.specs.Logs.{IsLog, LeavesLog}
use Rattle.tc_machine.specs.Components.{file_of, IsStillComponent}
use Rattle.tc_machine.specs.Pictures.{Opens}
use Rattle.tc_machine.specs.State.{Sealed, Active, Flushing, flush_name, Merging, State, held, names_held, active_generation, next_generation, flushing_of}
use Rattle.tc_machine.specs.Events.{Event, frame_started, frame_committed, table_sealed, part_started, flush_begun, flush_installed, merge_begun, merge_installed, part_failed, log_made, file_wasted, device_called, file_frozen, file_removed, snapshot_taken, stopped}

-- ---- what a stop leaves of one file

-- absent, closed, or bytes of which P holds
abbrev pub IsShutOrHas : (List ℕ → Type 0) → Image → Type 0
IsShutOrHas P None = Unit {0}
IsShutOrHas P (Some bytes) = (is_open_file bytes ≡ false) ⊎ P bytes

-- a log of these writes, or of these and those of the frame
abbrev pub LeavesWithOrWithout : Partition → ℕ → List Write → List Write → Image → Type 0
LeavesWithOrWithout part generation ws frame None = ⊥
LeavesWithOrWithout part generation ws frame (Some bytes) = IsLog part generation ws bytes ⊎ IsLog part generation (ws ++ frame) bytes

-- a file that is written, of which a stop leaves only what P says
abbrev pub IsWritten : (Image → Type 0) → Entry → Type 0
IsWritten P entry = (f : DiskFile) × (entry ≡ home f) × LeavesAt P f

-- the component of what a flush of the sealed table makes behind the list
abbrev pub IsFlushed : Partition → List Content → Option Sealed → List ℕ → Type 0
IsFlushed part cs None bytes = ⊥
IsFlushed part cs (Some d) bytes = (c : Content) × IsFlush part cs d.table (length d.logs) c × IsComponent c bytes

-- ---- which files are there

abbrev pub IsOfFlush : Option Flushing → ℕ → ℕ → Type 0
IsOfFlush None from to = ⊥
IsOfFlush (Some f) from to = (from ≡ f.from) × (to ≡ f.to)

abbrev pub IsOfMerge : Option Merging → ℕ → ℕ → Type 0
IsOfMerge None from to = ⊥
IsOfMerge (Some m) from to = (from ≡ m.target.from) × (to ≡ m.target.to)

-- A component lies within a listed one, or a job makes it. A log comes before the next one, or is the next one.
abbrev pub IsExpected : State → FileName → Type 0
IsExpected s (Component from to) = Covers s.list from to ⊎ (IsOfFlush s.flush from to ⊎ IsOfMerge s.merge from to)
IsExpected s (Log generation) = (generation < next_generation s) ⊎ ((generation ≡ next_generation s) × (s.making ≡ true))

-- each file that is there is one of these
abbrev pub AreExpected : State → Type 0
AreExpected s = (name : FileName) → IsThere (s.files name) → IsExpected s name

-- the next log is there, without a frame
abbrev pub HasNextLog : Partition → State → Type 0
HasNextLog part s = (next_generation s < 2 ^ 63) × IsWritten (LeavesLog part (next_generation s) []) (s.files (Log (next_generation s)))

-- ---- calls of a device

-- of the active log, while a frame is appended
pub record CallsLog (part : Partition) (s : State) (name : FileName) (f : DiskFile) : Type 0 where
  pub active : Active
  pub is_active : s.active ≡ Some active
  pub frame : List Write
  pub is_frame : s.frame ≡ Some frame
  pub named : name ≡ Log (active_generation s)
  pub leaves : LeavesAt (LeavesWithOrWithout part (active_generation s) active.writes frame) f

-- of the next log, which is being created
pub record CallsNextLog (part : Partition) (s : State) (name : FileName) (f : DiskFile) : Type 0 where
  pub named : name ≡ Log (next_generation s)
  pub leaves : LeavesAt (IsShutOrHas (IsLog part (next_generation s) [])) f

-- of the flush that is out
pub record CallsFlush (part : Partition) (s : State) (name : FileName) (f : DiskFile) : Type 0 where
  pub flushing : Flushing
  pub is_out : s.flush ≡ Some flushing
  pub named : name ≡ flush_name flushing
  pub leaves : LeavesAt (IsShutOrHas (IsFlushed part s.list s.sealed)) f

-- of the merge that is out
pub record CallsMerge (s : State) (name : FileName) (f : DiskFile) : Type 0 where
  pub merging : Merging
  pub is_out : s.merge ≡ Some merging
  pub named : name ≡ file_of merging.target
  pub leaves : LeavesAt (IsShutOrHas (IsComponent merging.target)) f

abbrev pub MayCall : Partition → State → FileName → DiskFile → Type 0
MayCall part s name f = CallsLog part s name f ⊎ (CallsNextLog part s name f ⊎ (CallsFlush part s name f ⊎ CallsMerge s name f))

pub record CallsDevice (part : Partition) (s : State) (name : FileName) (f : DiskFile) : Type 0 where
  pub old : DiskFile
  pub home : s.files name ≡ home old
  pub may : MayCall part s name f

-- ---- writes

pub record StartsFrame (s : State) (ws : List Write) : Type 0 where
  pub running : IsSome s.active
  pub none : s.frame ≡ None
  pub each : All IsStorableWrite ws
  pub room : HasRoom (after_writes (held s) ws)
  pub few : AreFew (names_held s ws)

-- the frame stays, whatever stops
pub record CommitsFrame (part : Partition) (s : State) : Type 0 where
  pub active : Active
  pub is_active : s.active ≡ Some active
  pub frame : List Write
  pub is_frame : s.frame ≡ Some frame
  pub durable : IsWritten (LeavesLog part (active_generation s) (active.writes ++ frame)) (s.files (Log (active_generation s)))

pub record SealsTable (part : Partition) (s : State) : Type 0 where
  pub running : IsSome s.active
  pub no_frame : s.frame ≡ None
  pub none_sealed : s.sealed ≡ None
  pub sound : s.failed ≡ false
  pub next_log : HasNextLog part s

-- An opening ends where no log above the components is left to be flushed, and no file that nobody needs is there.
pub record StartsPart (part : Partition) (s : State) : Type 0 where
  pub opening : s.active ≡ None
  pub none_sealed : s.sealed ≡ None
  pub next_log : HasNextLog part s
  pub still : All (λ c. IsStillComponent c (s.files (file_of c))) s.list
  pub expected : AreExpected s

-- ---- jobs

pub record BeginsFlush (s : State) : Type 0 where
  pub sealed : Sealed
  pub is_sealed : s.sealed ≡ Some sealed
  pub none_out : s.flush ≡ None
  pub sound : s.failed ≡ false
  pub before : Option (List ℕ)
  pub absent : s.files (flush_name (flushing_of s)) ≡ none before

-- what the flush made is whole, and never changes
pub record InstallsFlush (part : Partition) (s : State) (c : Content) : Type 0 where
  pub flushing : Flushing
  pub is_out : s.flush ≡ Some flushing
  pub sealed : Sealed
  pub is_sealed : s.sealed ≡ Some sealed
  pub is_flush : IsFlush part s.list sealed.table (length sealed.logs) c
  pub still : IsStillComponent c (s.files (file_of c))

pub record BeginsMerge (s : State) (run : Run) (c : Content) : Type 0 where
  pub none_out : s.merge ≡ None
  pub sound : s.failed ≡ false
  pub two : 2 ≤ run.length
  pub within : run.first + run.length ≤ length s.list
  pub is_merge : IsMerge (in_run run s.list) c
  pub before : Option (List ℕ)
  pub absent : s.files (file_of c) ≡ none before

-- what the merge made is whole, and never changes
pub record InstallsMerge (s : State) : Type 0 where
  pub merging : Merging
  pub is_out : s.merge ≡ Some merging
  pub still : IsStillComponent merging.target (s.files (file_of merging.target))

-- ---- files

pub record MakesFile (s : State) (name : FileName) : Type 0 where
  pub before : Option (List ℕ)
  pub absent : s.files name ≡ none before

pub record FreezesFile (s : State) (name : FileName) : Type 0 where
  pub file : DiskFile
  pub home : s.files name ≡ home file
  pub settled : IsSettled file

-- Nothing needs the file: a component that is not listed, a log that the list covers, or one that is closed.
abbrev pub IsSpare : State → FileName → List ℕ → Type 0
IsSpare s (Component from to) bytes = All (λ c. file_of c ≢ Component from to) s.list
IsSpare s (Log generation) bytes = (generation ≤ last_of s.list) ⊎ (is_open_file bytes ≡ false)

pub record RemovesFile (s : State) (name : FileName) : Type 0 where
  pub bytes : List ℕ
  pub still : s.files name ≡ still bytes
  pub spare : IsSpare s name bytes

-- ---- stops

-- no file is out but those that stand in the state
abbrev pub nothing_held : FileName → Image → Type 0
nothing_held name image = ⊥

-- a stop may leave this picture, and it opens so
pub record Stops (part : Partition) (s : State) (picture : Picture) (cs : List Content) (logs : List (List Write)) : Type 0 where
  pub left : IsPictureOf nothing_held s.files picture
  pub opens : Opens part picture cs logs

abbrev pub May : Partition → Event → State → Type 0
May part (frame_started ws) s = StartsFrame s ws
May part frame_committed s = CommitsFrame part s
May part table_sealed s = SealsTable part s
May part part_started s = StartsPart part s
May part flush_begun s = BeginsFlush s
May part (flush_installed c) s = InstallsFlush part s c
May part (merge_begun run c) s = BeginsMerge s run c
May part merge_installed s = InstallsMerge s
May part part_failed s = Unit {0}
May part log_made s = MakesFile s (Log (next_generation s))
May part (file_wasted name) s = MakesFile s name
May part (device_called name f) s = CallsDevice part s name f
May part (file_frozen name) s = FreezesFile s name
May part (file_removed name) s = RemovesFile s name
May part snapshot_taken s = IsSome s.active
May part (stopped picture cs logs) s = Stops part s picture cs logs
