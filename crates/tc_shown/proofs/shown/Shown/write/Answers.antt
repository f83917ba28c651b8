use Rattle.std.proofs.Common.{◌<◌, length, arith}
use Rattle.std.proofs.lemmas.Bool.Decides.{nat_tests}
use Rattle.tc_shown.proofs.Remembered.{state_added, wrote_history, wrote_remembered}
use Rattle.tc_shown.proofs.shown.Shown.write.Goals as goal

pub invariant_of-self-2 : goal.invariant_of-self-2
invariant_of-self-2 g c = λ _.
    (c.in_ok-publish.ensures.current, wrote_remembered _ _ c.in_ok-chunk.chunk _ _ _ c.in_ok-publish.ensures.added (c.self.invariant c.if-self.false).1)

pub returns-clause-wrote : goal.returns-clause-wrote
returns-clause-wrote g c =
    let some : 0 < length c.args.frame.items = let told = c.is_empty.ensures in let is = c.if-is_empty.false in grind (arith, nat_tests) in
    state_added _ _ _ _ _ c.self.inside.failed c.args.self.now c.self.view_is c.in_ok-publish.ensures.book
    (wrote_history _ _ c.in_ok-chunk.chunk c.args.frame.items c.in_ok-publish.ensures.added c.in_ok-chunk.ensures some) c.if-self.false
