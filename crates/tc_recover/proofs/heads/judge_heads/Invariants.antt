use Rattle.std.proofs.Common.{length}
use Rattle.tc_recover.specs.Refusals.{asked}
use Rattle.tc_recover.proofs.HeadSteps.{AreHeadsLeft}
use Rattle.tc_recover.proofs.heads.judge_heads.Given as goal

abbrev pub invariant-loop-file : goal.invariant-loop-file
invariant-loop-file g l =
    let content = g.F.Frozen.content in
    let counts = g.F.Watch.Watch.counts in
    AreHeadsLeft (λ file. content file) (asked l.part) l.fn.files l.rest (counts l.fn.watch) (counts l.watch)

abbrev pub decreases-loop-file : goal.decreases-loop-file
decreases-loop-file g l = length l.rest
