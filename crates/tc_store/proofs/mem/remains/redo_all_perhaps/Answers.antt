use Rattle.std.proofs.Common.{subst, sym}
use Rattle.tc_store.specs.DiskFile.{DiskFile}
use Rattle.tc_store.specs.Images.{IsImageOf}
use Rattle.tc_store.proofs.Memory.RemainsLemmas.{file_from-next}
use Rattle.tc_store.proofs.mem.remains.redo_all_perhaps.Goals as goal

pub loop-call-preserved : goal.loop-call-preserved
loop-call-preserved c f is =
    subst (λ (g : DiskFile). IsImageOf g c.redo_perhaps.new.image.items)
    (sym (file_from-next f c.args.calls.now c.loop-call.call-index c.call-item.result c.loop-call-test.true c.call-item.is))
    (c.in_ok-redo_perhaps.ensures _ (c.loop-call.invariant f is))
