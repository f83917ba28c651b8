-- What a shelf in memory has for each number.
use Rattle.std.specs.Prelude.{ℕ, ◌==◌, if◌then◌else◌, List, [], Option, None, Some, slice_get}
use Rattle.std.specs.List.{list_any}
use Rattle.tc_store.specs.declared.kit.Kit.{Kit}
use Rattle.tc_store.specs.declared.mem.device.MemDevice.{MemDevice}
use Rattle.tc_store.specs.declared.mem.frozen.MemFrozen.{MemFrozen}
use Rattle.tc_store.specs.declared.mem.store.MemStore.{MemStore}
use Rattle.tc_store.specs.declared.mem.watch.MemWatch.{MemWatch}
use Rattle.tc_store.specs.Disk.{Disk}
use Rattle.tc_store.specs.KitFaults.{KitFaults}
use Rattle.tc_store.specs.Memory.Store.{store_disks}

abbrev pub MemKit : Type 0
MemKit = Kit MemStore MemWatch MemDevice MemFrozen

pub record ShelfState : Type 0 where
  pub kits : List MemKit
  -- the numbers whose kits were given
  pub given : List ℕ
  -- how many calls failed
  pub faults : ℕ

-- the kit at a number, unless it was given
abbrev pub kit_at : {K : Type 0} → List K → List ℕ → ℕ → Option K
kit_at kits given number = if list_any (λ gone. gone == number) given then None else slice_get kits number

-- the kit that a shelf would give for a number
abbrev pub kit_of : ShelfState → ℕ → Option MemKit
kit_of shelf number = kit_at shelf.kits shelf.given number

-- the counts of faults of the watches of a kit, 0 where there is none
abbrev pub kit_faults_of : Option MemKit → KitFaults
kit_faults_of None = record { main = 0; flusher = 0; merger = 0; reader = 0 }
kit_faults_of (Some kit) = record { main = kit.main.faults; flusher = kit.flusher.faults; merger = kit.merger.faults; reader = kit.reader.faults }

-- the moments of the store of a kit, none where there is no kit
abbrev pub kit_disks : Option MemKit → List Disk
kit_disks None = []
kit_disks (Some kit) = store_disks kit.store
