use Rattle.std.proofs.Common.{ap, ◌∙◌}
use Rattle.tc_store.specs.DiskFile.{DiskFile, empty_file}
use Rattle.tc_store.proofs.Memory.RemainsLemmas.{file_from-next}
use Rattle.tc_store.proofs.mem.remains.content_after.Goals as goal

pub loop-call-preserved : goal.loop-call-preserved
loop-call-preserved c before =
    ap (λ (f : DiskFile). f.content) (file_from-next (empty_file before) c.args.calls.now c.loop-call.call-index c.call-item.result c.loop-call-test.true c.call-item.is)
    ∙ c.in_ok-redo.ensures _ (c.loop-call.invariant before)
