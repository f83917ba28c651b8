use Rattle.std.proofs.Common.{◌≡◌, ◌<◌, ◌≤◌, ℕ, List, Option, false, take, slice_index_or}
use Rattle.tc_store.specs.declared.mem.device.DeviceCall.{DeviceCall}
use Rattle.tc_store.specs.DiskFile.{empty_file}
use Rattle.tc_store.specs.Memory.Remains.{file_from, is_sync, IsUnsynced}
use Rattle.tc_store.proofs.mem.remains.settled_count.Given as goal

abbrev pub invariant-loop-i : goal.invariant-loop-i
invariant-loop-i l = record {
  within : l.settled ≤ l.i;
  unsynced : l.settled ≡ 0 → (before : Option (List ℕ)) → IsUnsynced before (file_from (empty_file before) (take l.i l.calls));
  pending : (k : ℕ) (d : DeviceCall) → l.settled ≤ k → k < l.i → is_sync (slice_index_or l.calls k d) ≡ false;
}
