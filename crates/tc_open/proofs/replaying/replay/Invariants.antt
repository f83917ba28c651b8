use Rattle.std.proofs.Common.{[], length}
use Rattle.std.specs.Prelude.{All}
use Rattle.std.specs.List.{AllByRecursion}
use Rattle.tc_log.specs.Writes.{IsWrite}
use Rattle.tc_open.specs.LastWrites.{written_in}
use Rattle.tc_open.proofs.WritesLeft.{AreWritesLeft}
use Rattle.tc_open.proofs.replaying.replay.Given as goal

abbrev pub invariant-loop-log : goal.invariant-loop-log
invariant-loop-log g l =
    let content = g.F.Frozen.content in
    let counts = g.F.Watch.Watch.counts in
    All (AllByRecursion IsWrite) l.rest × AreWritesLeft (λ file. content file) l.list (written_in l.fn.logs) (written_in l.rest) [] l.table (counts l.fn.watch) (counts l.watch)

abbrev pub decreases-loop-log : goal.decreases-loop-log
decreases-loop-log g l = length l.rest
