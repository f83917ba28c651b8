use Rattle.std.proofs.Common.{length}
use Rattle.tc_recover.proofs.Taking.{IsTakingFiles}
use Rattle.tc_recover.proofs.gates.take_files.Given as goal

abbrev pub invariant-loop-name : goal.invariant-loop-name
invariant-loop-name g l =
    let content = g.S.Frozen.Frozen.content in
    let name = g.S.Frozen.Frozen.name in
    let size = g.S.Frozen.Frozen.size in
    let history = g.S.Store.history in
    let counts = g.S.Watch.Watch.counts in
    IsTakingFiles (λ file. content file) (λ file. name file) (λ file. size file) l.fn.names l.rest (history l.fn.store) (history l.store) l.files.items (counts l.fn.watch) (counts l.watch)

abbrev pub decreases-loop-name : goal.decreases-loop-name
decreases-loop-name g l = length l.rest
