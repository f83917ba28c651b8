use Rattle.std.proofs.Common.{◌∙◌, ◌<◌, ◌++◌, [], ◌∷◌, is_some, length, sym, ap, subst}
use Rattle.tc_flush.proofs.Outcomes.{ok_then}
use Rattle.tc_part_model.specs.PartState.{PartState}
use Rattle.tc_work.specs.Moving.{beside, eyes}
use Rattle.tc_work.proofs.KeptJobs.{lists_then}
use Rattle.tc_work.proofs.MovingCalls.{may_then, moves_err, over_of, then_over}
use Rattle.tc_work.proofs.emptying.flush_both.Goals as goal

-- ---- the sealed table is not flushed

pub returns-in_err-end_flush-clause-moves : goal.returns-in_err-end_flush-clause-moves
returns-in_err-end_flush-clause-moves g c =
    let e = eyes g.S.Store.history g.S.Device.Device.history g.S.Frozen.Frozen.content g.S.Device.Device.name g.S.Frozen.Frozen.size g.S.Watch.Watch.counts in
    let mid = beside c.end_flush.new.part c.end_flush.new.jobs in
    over_of e (beside c.args.part.now c.args.jobs.now) mid c.from_residual.result (moves_err e (beside c.args.part.now c.args.jobs.now) mid mid c.from_residual.result c.end_flush.result c.in_err-end_flush.field-0.0 c.from_residual.ensures.1 c.in_err-end_flush.was c.end_flush.ensures.moves)

-- ---- the log has no frame

pub returns-then-log_len-le-EMPTY_LOG-clause-moves : goal.returns-then-log_len-le-EMPTY_LOG-clause-moves
returns-then-log_len-le-EMPTY_LOG-clause-moves g c = over_of
    (eyes g.S.Store.history g.S.Device.Device.history g.S.Frozen.Frozen.content g.S.Device.Device.name g.S.Frozen.Frozen.size g.S.Watch.Watch.counts)
    (beside c.args.part.now c.args.jobs.now) (beside c.end_flush.new.part c.end_flush.new.jobs) _ c.in_ok-end_flush.ensures.moves

-- ---- it has one

pub flush_active-requires-clause-may : goal.flush_active-requires-clause-may
flush_active-requires-clause-may g c κs within = may_then (eyes g.S.Store.history g.S.Device.Device.history g.S.Frozen.Frozen.content g.S.Device.Device.name
    g.S.Frozen.Frozen.size g.S.Watch.Watch.counts) (beside c.args.part.now c.args.jobs.now) (beside c.end_flush.new.part c.end_flush.new.jobs)
    (beside c.end_flush.new.part c.end_flush.new.jobs) c.in_ok-end_flush.ensures.moves

pub flush_active-requires-clause-picked : goal.flush_active-requires-clause-picked
flush_active-requires-clause-picked g c κs within = c.in_ok-end_flush.ensures.listed.picked

pub returns-clause-moves : goal.returns-clause-moves
returns-clause-moves g c = then_over (eyes g.S.Store.history g.S.Device.Device.history g.S.Frozen.Frozen.content g.S.Device.Device.name g.S.Frozen.Frozen.size
    g.S.Watch.Watch.counts) (beside c.args.part.now c.args.jobs.now) (beside c.end_flush.new.part c.end_flush.new.jobs)
    (beside c.flush_active.new.part c.flush_active.new.jobs) c.flush_active.result c.requires.may c.in_ok-end_flush.ensures.moves c.flush_active.ensures.moves

pub returns-clause-listed : goal.returns-clause-listed
returns-clause-listed g c = ok_then c.flush_active.result _ _
    (λ lists. lists_then (eyes g.S.Store.history g.S.Device.Device.history g.S.Frozen.Frozen.content g.S.Device.Device.name g.S.Frozen.Frozen.size
    g.S.Watch.Watch.counts) (beside c.args.part.now c.args.jobs.now) (beside c.end_flush.new.part c.end_flush.new.jobs)
    (beside c.flush_active.new.part c.flush_active.new.jobs) c.args.policy c.in_ok-end_flush.ensures.listed lists) c.flush_active.ensures.listed

pub returns-clause-flushed : goal.returns-clause-flushed
returns-clause-flushed g c = ok_then c.flush_active.result _ _ (λ flushed written none few.
    let same = (c.end_flush.ensures.nothing (c.requires.flushing ∙ ap is_some none)).1 in
    let found = flushed (subst (λ (s : PartState _ _ _ _). length s.list < 8) (sym same) few) in
    (found.0, found.1 ∙ ap (λ (s : PartState _ _ _ _). s.list ++ found.0 ∷ []) same)) c.flush_active.ensures.flushed
