use Rattle.tc_flush.proofs.Outcomes.{ok_then}
use Rattle.tc_work.specs.Moving.{beside, eyes}
use Rattle.tc_work.proofs.KeptJobs.{lists_then}
use Rattle.tc_work.proofs.MovingCalls.{may_over, may_then, moves_err, over_err, over_of, over_then, then_over}
use Rattle.tc_work.proofs.settling.empty_and_merge.Goals as goal

-- ---- the sealed table is not flushed

pub returns-in_err-end_flush-clause-moves : goal.returns-in_err-end_flush-clause-moves
returns-in_err-end_flush-clause-moves g c =
    let e = eyes g.S.Store.history g.S.Device.Device.history g.S.Frozen.Frozen.content g.S.Device.Device.name g.S.Frozen.Frozen.size g.S.Watch.Watch.counts in
    let mid = beside c.end_flush.new.part c.end_flush.new.jobs in
    over_of e (beside c.args.part.now c.args.jobs.now) mid c.from_residual.result (moves_err e (beside c.args.part.now c.args.jobs.now) mid mid c.from_residual.result c.end_flush.result c.in_err-end_flush.field-0.0 c.from_residual.ensures.1 c.in_err-end_flush.was c.end_flush.ensures.moves)

-- ---- the active one is not sealed

pub seal_and_start-requires-clause-may : goal.seal_and_start-requires-clause-may
seal_and_start-requires-clause-may g c κs within = may_then (eyes g.S.Store.history g.S.Device.Device.history g.S.Frozen.Frozen.content g.S.Device.Device.name
    g.S.Frozen.Frozen.size g.S.Watch.Watch.counts) (beside c.args.part.now c.args.jobs.now) (beside c.end_flush.new.part c.end_flush.new.jobs)
    (beside c.end_flush.new.part c.end_flush.new.jobs) c.in_ok-end_flush.ensures.moves

pub returns-in_err-seal_and_start-clause-moves : goal.returns-in_err-seal_and_start-clause-moves
returns-in_err-seal_and_start-clause-moves g c =
    let e = eyes g.S.Store.history g.S.Device.Device.history g.S.Frozen.Frozen.content g.S.Device.Device.name g.S.Frozen.Frozen.size g.S.Watch.Watch.counts in
    let r = c.from_residual-in_err-seal_and_start.result in
    let mid = beside c.end_flush.new.part c.end_flush.new.jobs in
    let new = beside c.seal_and_start.new.part c.seal_and_start.new.jobs in
    then_over e (beside c.args.part.now c.args.jobs.now) mid new r c.requires.may c.in_ok-end_flush.ensures.moves
    (over_err e mid new new r c.seal_and_start.result c.in_err-seal_and_start.field-0.0 c.from_residual-in_err-seal_and_start.ensures.1 c.in_err-seal_and_start.was c.seal_and_start.ensures.moves)

-- ---- components are merged

pub merge_on-requires-clause-may : goal.merge_on-requires-clause-may
merge_on-requires-clause-may g c κs within = may_over (eyes g.S.Store.history g.S.Device.Device.history g.S.Frozen.Frozen.content g.S.Device.Device.name
    g.S.Frozen.Frozen.size g.S.Watch.Watch.counts) (beside c.end_flush.new.part c.end_flush.new.jobs) (beside c.seal_and_start.new.part c.seal_and_start.new.jobs)
    (beside c.seal_and_start.new.part c.seal_and_start.new.jobs) c.in_ok-seal_and_start.ensures.moves

pub merge_on-requires-clause-picked : goal.merge_on-requires-clause-picked
merge_on-requires-clause-picked g c κs within = (c.in_ok-seal_and_start.ensures.listed c.args.policy c.in_ok-end_flush.ensures.listed.picked).picked

pub returns-clause-moves : goal.returns-clause-moves
returns-clause-moves g c =
    let e = eyes g.S.Store.history g.S.Device.Device.history g.S.Frozen.Frozen.content g.S.Device.Device.name g.S.Frozen.Frozen.size g.S.Watch.Watch.counts in
    then_over e (beside c.args.part.now c.args.jobs.now) (beside c.end_flush.new.part c.end_flush.new.jobs) (beside c.merge_on.new.part c.merge_on.new.jobs) c.merge_on.result c.requires.may c.in_ok-end_flush.ensures.moves
    (over_then e (beside c.end_flush.new.part c.end_flush.new.jobs) (beside c.seal_and_start.new.part c.seal_and_start.new.jobs)
    (beside c.merge_on.new.part c.merge_on.new.jobs) c.merge_on.result c.in_ok-seal_and_start.ensures.moves c.in_ok-seal_and_start.ensures.sealed.2
    c.in_ok-seal_and_start.ensures.emptied.2 c.merge_on.ensures.moves)

pub returns-clause-listed : goal.returns-clause-listed
returns-clause-listed g c = ok_then c.merge_on.result _ _ (λ lists.
    let e = eyes g.S.Store.history g.S.Device.Device.history g.S.Frozen.Frozen.content g.S.Device.Device.name g.S.Frozen.Frozen.size g.S.Watch.Watch.counts in
    let one = c.in_ok-end_flush.ensures.listed in
    lists_then e (beside c.args.part.now c.args.jobs.now) (beside c.end_flush.new.part c.end_flush.new.jobs) (beside c.merge_on.new.part c.merge_on.new.jobs)
    c.args.policy one (lists_then e (beside c.end_flush.new.part c.end_flush.new.jobs) (beside c.seal_and_start.new.part c.seal_and_start.new.jobs)
    (beside c.merge_on.new.part c.merge_on.new.jobs) c.args.policy (c.in_ok-seal_and_start.ensures.listed c.args.policy one.picked) lists))
    c.merge_on.ensures.listed
