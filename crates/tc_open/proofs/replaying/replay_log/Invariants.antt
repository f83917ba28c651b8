use Rattle.std.proofs.Common.{length}
use Rattle.std.specs.List.{AllByRecursion}
use Rattle.tc_log.specs.Writes.{IsWrite}
use Rattle.tc_open.proofs.WritesLeft.{AreWritesLeft}
use Rattle.tc_open.proofs.replaying.replay_log.Given as goal

abbrev pub invariant-loop-write : goal.invariant-loop-write
invariant-loop-write g l =
    let content = g.F.Frozen.content in
    let counts = g.F.Watch.Watch.counts in
    AllByRecursion IsWrite l.rest × AreWritesLeft (λ file. content file) l.list l.fn.writes l.rest l.fn.table l.table (counts l.fn.watch) (counts l.watch)

abbrev pub decreases-loop-write : goal.decreases-loop-write
decreases-loop-write g l = length l.rest
