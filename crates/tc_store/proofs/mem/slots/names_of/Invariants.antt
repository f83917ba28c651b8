use Rattle.std.proofs.Common.{ℕ, ◌<◌, length}
use Rattle.std.specs.Prelude.{Contains, slice_index_or}
use Rattle.tc_store.specs.declared.mem.entry.MemFile.{MemFile}
use Rattle.tc_store.specs.declared.mem.entry.Slot.{Slot}
use Rattle.tc_store.specs.Disk.{IsThere}
use Rattle.tc_store.specs.Memory.Disk.{disk_of}
use Rattle.tc_store.specs.Memory.Names.{ListsSome}
use Rattle.tc_store.proofs.mem.slots.names_of.Given as goal

abbrev pub invariant-loop-slot : goal.invariant-loop-slot
invariant-loop-slot l = record {
  some : ListsSome l.names.items (disk_of l.files l.slots);
  slots : (k : ℕ) (d : Slot) → k < l.slot-index → IsThere (disk_of l.files l.slots (slice_index_or l.slots k d).name) → Contains l.names.items (slice_index_or l.slots k d).name;
}

abbrev pub invariant-loop-file : goal.invariant-loop-file
invariant-loop-file l = record {
  some : ListsSome l.names.items (disk_of l.files l.slots);
  slots : (k : ℕ) (d : Slot) → k < length l.slots → IsThere (disk_of l.files l.slots (slice_index_or l.slots k d).name) → Contains l.names.items (slice_index_or l.slots k d).name;
  files : (k : ℕ) (d : MemFile) → k < l.file-index → IsThere (disk_of l.files l.slots (slice_index_or l.files k d).name) → Contains l.names.items (slice_index_or l.files k d).name;
}
