use Rattle.std.proofs.Common.{[], length, subst}
use Rattle.std.specs.Prelude.{All}
use Rattle.std.specs.List.{AllByRecursion}
use Rattle.std.proofs.lemmas.List.{nil_from_length}
use Rattle.std.proofs.lemmas.List.Elements.{All-tail}
use Rattle.tc_model.proofs.KeyedOrder.{sorted_nil}
use Rattle.tc_log.specs.Writes.{IsWrite}
use Rattle.tc_open.specs.LastWrites.{written_in}
use Rattle.tc_open.specs.Reads.{IsCountedUpTo}
use Rattle.tc_open.specs.Replays.{Replays}
use Rattle.tc_open.proofs.CountedReads.{done_counts}
use Rattle.tc_open.proofs.ReplayedTables.{replayed_table}
use Rattle.tc_open.proofs.ReplayedWrites.{holds_last}
use Rattle.tc_open.proofs.WritesLeft.{AreWritesLeft, fewer_left, none_left}
use Rattle.tc_open.proofs.replaying.replay.Goals as goal

pub loop-log-preserved : goal.loop-log-preserved
loop-log-preserved g c =
    let at = c.loop-log in
    let content = g.F.Frozen.content in
    let counts = g.F.Watch.Watch.counts in
    let list = c.args.list.now in
    let log = c.in-Some.log.now in
    let behind = c.in-Some.behind.now in
    let steps = c.in-Some.ensures.cases.0 in
    let same = c.as_slice.ensures.same in
    let lawful = subst (λ logs. All (AllByRecursion IsWrite) logs) steps at.invariant.0 in
    let left = subst (λ logs. AreWritesLeft (λ file. content file) list (written_in c.args.logs.now) (written_in logs) [] at.table (counts c.args.watch.now) (counts at.watch)) steps at.invariant.1 in
    let replayed = subst (λ ws. Replays (λ file. content file) list ws at.table c.replay_log.new.table) same c.in_ok-replay_log.ensures.replayed in
    let counted = subst (λ ws. IsCountedUpTo ⊥ (length ws) (counts at.watch) (counts c.replay_log.new.watch)) same (done_counts _ _ _ _ c.in_ok-replay_log.ensures.counted) in (
      All-tail (AllByRecursion IsWrite) log behind lawful,
      fewer_left (λ file. content file) list (written_in c.args.logs.now) [] (counts c.args.watch.now) log (written_in behind) at.table c.replay_log.new.table (counts at.watch) (counts c.replay_log.new.watch) left replayed counted,
    )

pub returns-clause-table : goal.returns-clause-table
returns-clause-table g c = λ part cs ws is_list loaded same storable.
    let at = c.loop-log in
    let content = g.F.Frozen.content in
    let counts = g.F.Watch.Watch.counts in
    let list = c.args.list.now in
    let nothing = nil_from_length at.rest.now c.in_default.ensures.cases in
    let left = subst (λ logs. AreWritesLeft (λ file. content file) list (written_in c.args.logs.now) (written_in logs) [] at.table (counts c.args.watch.now) (counts at.watch)) nothing at.invariant.1 in
    replayed_table (λ file. content file) list part cs is_list loaded c.args.logs.now ws at.table same storable (none_left (λ file. content file) list (written_in c.args.logs.now) [] (counts c.args.watch.now) at.table (counts at.watch) left)

pub returns-clause-last : goal.returns-clause-last
returns-clause-last g c =
    let at = c.loop-log in
    let content = g.F.Frozen.content in
    let counts = g.F.Watch.Watch.counts in
    let list = c.args.list.now in
    let nothing = nil_from_length at.rest.now c.in_default.ensures.cases in
    let left = subst (λ logs. AreWritesLeft (λ file. content file) list (written_in c.args.logs.now) (written_in logs) [] at.table (counts c.args.watch.now) (counts at.watch)) nothing at.invariant.1 in
    holds_last (λ file. content file) list (written_in c.args.logs.now) at.table sorted_nil (none_left (λ file. content file) list (written_in c.args.logs.now) [] (counts c.args.watch.now) at.table (counts at.watch) left)
