use Rattle.std.proofs.Common.{◌≡◌, ℕ, List, Option, take}
use Rattle.tc_store.specs.DiskFile.{empty_file}
use Rattle.tc_store.specs.Memory.Remains.{file_from}
use Rattle.tc_store.proofs.mem.remains.content_after.Given as goal

abbrev pub invariant-loop-call : goal.invariant-loop-call
invariant-loop-call l = (before : Option (List ℕ)) → (file_from (empty_file before) (take l.call-index l.calls)).content ≡ l.content.items
