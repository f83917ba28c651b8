use Rattle.std.proofs.Common.{take}
use Rattle.tc_store.specs.DiskFile.{DiskFile}
use Rattle.tc_store.specs.Images.{IsImageOf}
use Rattle.tc_store.specs.Memory.Remains.{file_from}
use Rattle.tc_store.proofs.mem.remains.redo_all_perhaps.Given as goal

abbrev pub invariant-loop-call : goal.invariant-loop-call
invariant-loop-call l = (f : DiskFile) → IsImageOf f l.initial.image.items → IsImageOf (file_from f (take l.call-index l.calls)) l.image.items
