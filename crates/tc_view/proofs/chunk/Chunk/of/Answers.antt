use Rattle.std.proofs.Common.{◌∙◌, [], sym, subst}
use Rattle.std.proofs.lemmas.List.{take_all}
use Rattle.tc_view.proofs.PieceLemmas.{AreOf, none_of, next_of}
use Rattle.tc_view.proofs.chunk.Chunk.of.Goals as goal

pub loop-write-init : goal.loop-write-init
loop-write-init c = subst (λ ps. AreOf c.in_ok-room.room.bytes.items ps []) (sym c.in_ok-room.ensures.0) (none_of c.in_ok-room.room.bytes.items)

pub loop-write-preserved : goal.loop-write-preserved
loop-write-preserved c =
    let put = c.in_ok-put.ensures in
    next_of c.loop-write.bytes.items c.put.new.bytes.items c.loop-write.pieces.items c.push.new.self.items c.args.writes.now c.loop-write.write-index c.in_ok-put.field-0 c.write-item.result
    put.others c.loop-write.invariant put.lies put.same c.in_ok-push.ensures.items c.loop-write-test.true c.write-item.is

pub invariant_of-result : goal.invariant_of-result
invariant_of-result c = c.loop-write.invariant.lie

pub returns : goal.returns
returns c = record { same = c.loop-write.invariant.same ∙ take_all c.loop-write.write-index c.args.writes.now c.loop-write-test.false }
