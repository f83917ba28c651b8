-- What holds of the partition that a row works on.
use Rattle.std.specs.Prelude.{◌≡◌, ℕ, Bool, true, false, None, is_some}
use Rattle.tc_store.specs.declared.mem.store.MemStore.{MemStore}
use Rattle.tc_store.specs.declared.mem.device.MemDevice.{MemDevice}
use Rattle.tc_store.specs.declared.mem.frozen.MemFrozen.{MemFrozen}
use Rattle.tc_store.specs.Memory.Device.{device_files}
use Rattle.tc_store.specs.Memory.Frozen.{frozen_content}
use Rattle.tc_store.specs.Memory.Store.{store_disks}
use Rattle.tc_store.specs.Memory.Watch.{MemCounts}
use Rattle.tc_part_model.specs.Meaning.{IsPart}
use Rattle.tc_part_model.specs.PartState.{PartState, Told, told}
use Rattle.tc_part_model.specs.PartView.{PartView}
use Rattle.part_rows.specs.Waiting.{AreWaiting}

-- a part over a store in memory
abbrev pub MemPart : Type 0
MemPart = PartState MemStore MemDevice MemFrozen MemCounts

abbrev pub told_in_memory : MemPart → Told
told_in_memory part = told store_disks device_files frozen_content part

-- it means something
abbrev pub Means : MemPart → Type 0
Means part = (p : PartView) × IsPart (told_in_memory part) p

-- No job of it is out, and the reader's watch is not. Unless it has failed, at most so many writes are staged, and where it is to stand it means something.
pub record IsAtDesk (part : MemPart) (waiting : ℕ) (stands : Bool) : Type 0 where
  pub no_flush : part.flushing ≡ false
  pub no_merge : part.merging ≡ None
  pub reader : is_some part.reader ≡ true
  pub means : stands ≡ true → part.failed ≡ false → Means part
  pub staged : part.failed ≡ false → AreWaiting part.staged waiting
