-- What a store in memory shows.
use Rattle.std.specs.Prelude.{◌≡◌, List, reverse}
use Rattle.tc_store.specs.declared.mem.store.MemStore.{MemStore}
use Rattle.tc_store.specs.Disk.{Disk}
use Rattle.tc_store.specs.Memory.Disk.{disk_of, disks_of}

-- its member `history`
abbrev pub store_disks : MemStore → List Disk
store_disks store = disks_of (disk_of store.files.items store.slots.items) (reverse store.past.items)

-- the parts that room for changes leaves alone
pub record SameParts (old new : MemStore) : Type 0 where
  pub files : new.files.items ≡ old.files.items
  pub slots : new.slots.items ≡ old.slots.items
  pub past : new.past.items ≡ old.past.items
