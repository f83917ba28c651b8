-- What contracts see of a part, and what it tells without a look at the types of its store.
use Rattle.std.specs.Prelude.{◌<◌, ◌≤◌, ◌^◌, ℕ, Bool, List, [], ◌∷◌, Option, length, map, option_map, All, IsSome}
use Rattle.std.specs.List.{AllByRecursion}
use Rattle.tc_model.specs.Document.{Name}
use Rattle.tc_plain_model.specs.Room.{Limits}
use Rattle.tc_store.specs.Disk.{Disk}
use Rattle.tc_store.specs.DiskFile.{DiskFile}
use Rattle.tc_log.specs.declared.write.Write.{Write}
use Rattle.tc_log.specs.Appending.{LogState}
use Rattle.tc_log.specs.Spelling.{body_bytes}
use Rattle.tc_log.specs.Writes.{IsWrite}
use Rattle.tc_memory.specs.Table.{Table}
use Rattle.tc_component.specs.Loading.{ComponentState}
use Rattle.tc_component.specs.Spelling.{Index}
use Rattle.tc_lsm_model.specs.Contents.{Partition}
use Rattle.tc_lsm_model.specs.Merges.{Run}

-- a part over a store S with devices D, still files F and watches W
pub record PartState (S D F W : Type 0) : Type 0 where
  pub number : ℕ
  pub count : ℕ
  pub limits : Limits
  -- when a table is sealed, in bytes of its log
  pub memory : ℕ
  pub store : S
  pub main : W
  -- the watches of those who are not out with them
  pub flusher : Option W
  pub merger : Option W
  pub reader : Option W
  -- the listed components, the oldest first
  pub list : List (ComponentState F)
  pub sealed : Option Table
  pub sealed_log : Option (LogState D)
  pub active : Table
  pub log : LogState D
  -- that of the active log
  pub generation : ℕ
  pub staged : List Write
  -- the names that are taken, and how many documents are live, with what is staged
  pub taken : List Name
  pub live : ℕ
  -- how many writes were committed in this run
  pub writes : ℕ
  pub flushing : Bool
  pub merging : Option Run
  pub failed : Bool

-- a component: the content of its file, where that is told, and what was loaded of it
pub record ToldComponent : Type 0 where
  pub content : Option (List ℕ)
  pub index : Index

-- what a part tells: the moments of its store and of its logs, the contents of the listed files, and what it has in memory
pub record Told : Type 0 where
  pub part : Partition
  pub disks : List Disk
  pub log : List DiskFile
  pub sealed_log : Option (List DiskFile)
  pub generation : ℕ
  pub components : List ToldComponent
  pub sealed : Option Table
  pub active : Table
  pub staged : List Write
  pub taken : List Name
  pub live : ℕ
  pub flushing : Bool
  pub merging : Option Run
  pub failed : Bool

abbrev pub told_component : {F : Type 0} → (F → Option (List ℕ)) → ComponentState F → ToldComponent
told_component content c = record { content = content c.file; index = c.index }

-- The moments of a store and of a device, and the content of a still file, come from the traits of the store.
abbrev pub told : {S D F W : Type 0} → (S → List Disk) → (D → List DiskFile) → (F → Option (List ℕ)) → PartState S D F W → Told
told disks moments content p = record {
  part = record { number = p.number; count = p.count };
  disks = disks p.store;
  log = moments p.log.device;
  sealed_log = option_map (λ l. moments l.device) p.sealed_log;
  generation = p.generation;
  components = map (told_component content) p.list;
  sealed = p.sealed;
  active = p.active;
  staged = p.staged;
  taken = p.taken;
  live = p.live;
  flushing = p.flushing;
  merging = p.merging;
  failed = p.failed;
}

-- the content of each listed file is told
abbrev pub AreTold : List ToldComponent → Type 0
AreTold components = All (λ c. IsSome c.content) components

-- it tells something
abbrev pub IsTold : {X : Type 0} → List X → Type 0
IsTold [] = ⊥
IsTold (now ∷ past) = Unit {0}

-- writes that one frame may hold
pub record AreForFrame (ws : List Write) : Type 0 where
  pub few : length ws ≤ 4096
  pub each : AllByRecursion IsWrite ws
  pub short : length (body_bytes ws) < 2 ^ 32
