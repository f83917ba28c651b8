-- What a part means, and what holds of it between two calls.
use Rattle.std.specs.Prelude.{◌≡◌, Bool, true, false, List, Option, Some, None, length, map, option_map, is_some, All, IfSome}
use Rattle.std.specs.List.{AllZip}
use Rattle.tc_model.specs.Keyed.{Keyed, on_value}
use Rattle.tc_model.specs.KnownNames.{HasEach}
use Rattle.tc_store.specs.Moments.{IfTold}
use Rattle.tc_memory.specs.Table as memory
use Rattle.tc_memory.specs.DocumentTables.{kept_table, IsStoredAt}
use Rattle.tc_component.specs.Reading.{version_of}
use Rattle.tc_component.specs.Rows.{IsIndexOf, IsComponent}
use Rattle.tc_plain_model.specs.Store.{Store}
use Rattle.tc_plain_model.specs.Writes.{Pairs, Write}
use Rattle.tc_lsm_model.specs.Contents.{Partition, Content}
use Rattle.tc_lsm_model.specs.Tables.{Table}
use Rattle.tc_machine.specs.Logs.{kept_write}
use Rattle.tc_machine.specs.Writes.{HasRoom}
use Rattle.tc_machine.specs.State.{Sealed}
use Rattle.tc_machine.specs.Kept.{IsMemoryKept}
use Rattle.tc_part_model.specs.PartState.{ToldComponent, Told, AreTold}
use Rattle.tc_part_model.specs.PartView.{PartView, state_of, store_of, stored_with, generation_of, below_of, table_of, names_in, MayStart}
use Rattle.tc_part_model.specs.PartFiles.{AreKeptAt, AreJobsOut, IfFilesTold, LogsTell}

-- ---- what is told is this

-- a component was loaded of the file of a content
pub record IsOfContent (component : ToldComponent) (c : Content) : Type 0 where
  pub index : IsIndexOf component.index c
  pub file : IfSome component.content (λ bytes. IsComponent c bytes)
  pub version : IfSome component.content (λ bytes. component.index.version ≡ version_of bytes)

-- what a table holds of a key, and whether the key has something below
abbrev pub shown : memory.Kept → memory.Held × Bool
shown k = (k.held, is_some k.below)

abbrev pub all_shown : memory.Table → Keyed (memory.Held × Bool)
all_shown t = map (on_value shown) t

-- A table keeps these documents. The shapes below come from the files, so that they are known where the files are told.
pub record KeepsTable (are_told : Type 0) (t : Table) (kept : memory.Table) : Type 0 where
  pub stored : All IsStoredAt t
  pub holds : all_shown kept ≡ all_shown (kept_table t)
  pub shapes : are_told → kept ≡ kept_table t

abbrev pub KeepsSealed : Type 0 → Option Sealed → Option memory.Table → Type 0
KeepsSealed are_told None None = Unit {0}
KeepsSealed are_told None (Some kept) = ⊥
KeepsSealed are_told (Some d) None = ⊥
KeepsSealed are_told (Some d) (Some kept) = (length d.logs ≡ 1) × KeepsTable are_told d.table kept

pub record IsViewOf (t : Told) (p : PartView) : Type 0 where
  pub part : t.part ≡ p.part
  pub generation : t.generation ≡ generation_of p
  pub components : AllZip IsOfContent t.components p.list
  pub sealed : KeepsSealed (AreTold t.components) p.sealed t.sealed
  pub sealed_log : is_some t.sealed_log ≡ is_some p.sealed
  pub active : KeepsTable (AreTold t.components) (table_of p) t.active
  pub staged : t.staged ≡ map kept_write p.staged
  -- the names that are taken have all that are held, and no document is counted twice
  pub taken : HasEach t.taken (names_in p)
  pub live : t.live ≡ length (stored_with p)
  pub flushing : t.flushing ≡ is_some p.flush
  pub merging : t.merging ≡ option_map (λ m. m.run) p.merge

-- as a plain store: what is stored with what is staged, and the names that are taken
abbrev pub plain_of : Told → PartView → Store
plain_of t p = record { pairs = stored_with p; taken = t.taken }

-- ---- a part

-- what the files keep, where they are told
pub record HasFiles (t : Told) (p : PartView) : Type 0 where
  pub kept : IfFilesTold t (AreKeptAt p false None)
  pub jobs : IfTold t.disks (AreJobsOut p.flush p.merge)

-- It has not failed, it means this, and it keeps what the machine keeps: of what it has in memory over every store, and of the
-- files where they are told.
pub record IsPart (t : Told) (p : PartView) : Type 0 where
  pub sound : t.failed ≡ false
  pub view : IsViewOf t p
  pub memory : IsMemoryKept p.part (state_of p)
  pub staged : MayStart p
  -- what lies below the active table has room by itself, so that the sealed table can be flushed
  pub room : HasRoom (below_of p)
  pub tells : LogsTell t.disks t.log t.sealed_log
  pub files : HasFiles t p

-- It has failed. Its files keep what is stored, with the frame whose append failed or without it. What it has in memory means
-- nothing any more.
pub record HasFailed (t : Told) (part : Partition) (pairs : Pairs) (frame : Option (List Write)) : Type 0 where
  pub failed : t.failed ≡ true
  pub view : PartView
  pub here : view.part ≡ part
  pub holds : store_of view ≡ pairs
  pub tells : LogsTell t.disks t.log t.sealed_log
  pub files : IfFilesTold t (AreKeptAt view true frame)

-- It has failed, and its files keep what they kept of this.
pub record HasFailedAs (t : Told) (p : PartView) (frame : Option (List Write)) : Type 0 where
  pub failed : t.failed ≡ true
  pub tells : LogsTell t.disks t.log t.sealed_log
  pub files : IfFilesTold t (AreKeptAt p true frame)
