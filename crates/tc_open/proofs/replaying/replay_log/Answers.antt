use Rattle.std.proofs.Common.{[], ◌∷◌, refl, subst}
use Rattle.std.specs.List.{AllByRecursion}
use Rattle.tc_log.specs.Writes.{IsWrite}
use Rattle.tc_open.proofs.CountedReads.{done_counts, lookup_counts}
use Rattle.tc_open.proofs.WritesLeft.{AreWritesLeft, fewer_left}
use Rattle.tc_open.proofs.replaying.replay_log.Goals as goal

pub loop-write-preserved : goal.loop-write-preserved
loop-write-preserved g c =
    let at = c.loop-write in
    let content = g.F.Frozen.content in
    let counts = g.F.Watch.Watch.counts in
    let list = c.args.list.now in
    let steps = c.in-Some.ensures.cases.0 in
    let lawful = subst (λ ws. AllByRecursion IsWrite ws) steps at.invariant.0 in
    let left = subst (λ ws. AreWritesLeft (λ file. content file) list c.args.writes.now ws c.args.table.now at.table (counts c.args.watch.now) (counts at.watch)) steps at.invariant.1 in (
      lawful.1,
      fewer_left (λ file. content file) list c.args.writes.now c.args.table.now (counts c.args.watch.now) (c.in-Some.write.now ∷ []) c.in-Some.behind.now at.table c.replay_write.new.table (counts at.watch) (counts c.replay_write.new.watch) left
          (c.replay_write.new.table, c.in_ok-replay_write.ensures.replayed, refl) (done_counts _ 1 _ _ (lookup_counts _ _ _ _ c.in_ok-replay_write.ensures.counted)),
    )
