use Rattle.std.proofs.Common.{length}
use Rattle.tc_recover.proofs.LogSteps.{AreLogsLeft}
use Rattle.tc_recover.proofs.logs.read_logs.Given as goal

abbrev pub invariant-loop-file : goal.invariant-loop-file
invariant-loop-file g l =
    let content = g.F.Frozen.content in
    let counts = g.F.Watch.Watch.counts in
    AreLogsLeft (λ file. content file) l.last l.fn.files l.rest l.all.items (counts l.fn.watch) (counts l.watch)

abbrev pub decreases-loop-file : goal.decreases-loop-file
decreases-loop-file g l = length l.rest
