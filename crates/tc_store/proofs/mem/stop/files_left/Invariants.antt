use Rattle.std.proofs.Common.{ℕ, ◌<◌, length}
use Rattle.std.specs.Prelude.{Contains, slice_index_or}
use Rattle.tc_store.specs.declared.mem.entry.MemFile.{MemFile}
use Rattle.tc_store.specs.declared.mem.entry.Slot.{Slot}
use Rattle.tc_store.specs.Memory.Disk.{disk_of}
use Rattle.tc_store.specs.Memory.Remains.{IsPictureSoFar, picture_of}
use Rattle.tc_store.proofs.mem.stop.files_left.Given as goal

abbrev pub invariant-loop-slot : goal.invariant-loop-slot
invariant-loop-slot l = record {
  some : IsPictureSoFar l.decided.items (disk_of l.files l.slots) (picture_of l.left.items);
  slots : (k : ℕ) (d : Slot) → k < l.slot-index → Contains l.decided.items (slice_index_or l.slots k d).name;
}

abbrev pub invariant-loop-file : goal.invariant-loop-file
invariant-loop-file l = record {
  some : IsPictureSoFar l.decided.items (disk_of l.files l.slots) (picture_of l.left.items);
  slots : (k : ℕ) (d : Slot) → k < length l.slots → Contains l.decided.items (slice_index_or l.slots k d).name;
  files : (k : ℕ) (d : MemFile) → k < l.file-index → Contains l.decided.items (slice_index_or l.files k d).name;
}
