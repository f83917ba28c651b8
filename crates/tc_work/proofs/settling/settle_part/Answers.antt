use Rattle.std.proofs.Common.{◌≡◌, ◌∙◌, ◌<◌, ◌+◌, is_some, ap, sym, subst}
use Rattle.std.specs.Prelude.{OnOk}
use Rattle.tc_flush.proofs.Outcomes.{ok_then}
use Rattle.tc_log.specs.Layout.{empty_size}
use Rattle.tc_part_model.specs.PartState.{PartState}
use Rattle.tc_work.specs.Moving.{beside, eyes}
use Rattle.tc_work.proofs.KeptJobs.{lists_then}
use Rattle.tc_work.proofs.MovingCalls.{may_then, moves_err, over_of, then_over}
use Rattle.tc_work.proofs.SweptFiles.{due_before, due_still}
use Rattle.tc_work.proofs.settling.settle_part.Goals as goal

-- ---- nothing shares them any more

pub go_on-requires-clause-may : goal.go_on-requires-clause-may
go_on-requires-clause-may g c κs within = may_then (eyes g.S.Store.history g.S.Device.Device.history g.S.Frozen.Frozen.content g.S.Device.Device.name
    g.S.Frozen.Frozen.size g.S.Watch.Watch.counts) (beside c.args.part.now c.args.jobs.now) (beside c.sweep.new.part c.args.jobs.now)
    (beside c.sweep.new.part c.args.jobs.now) (c.in_ok-sweep.ensures.moves c.args.jobs.now c.requires.may)

pub go_on-requires-clause-nothing_staged : goal.go_on-requires-clause-nothing_staged
go_on-requires-clause-nothing_staged g c κs within = ap (λ (s : PartState _ _ _ _). s.staged) c.sweep.ensures.same ∙ c.requires.nothing_staged

pub go_on-requires-clause-flushing : goal.go_on-requires-clause-flushing
go_on-requires-clause-flushing g c κs within = subst (λ (s : PartState _ _ _ _). s.flushing ≡ is_some s.sealed) (sym c.sweep.ensures.same) c.requires.flushing

pub go_on-requires-clause-picked : goal.go_on-requires-clause-picked
go_on-requires-clause-picked g c κs within = (c.in_ok-sweep.ensures.listed c.args.policy c.args.jobs.now c.requires.picked).picked

-- ---- a file did not go

pub returns-in_err-sweep-clause-moves : goal.returns-in_err-sweep-clause-moves
returns-in_err-sweep-clause-moves g c =
    let e = eyes g.S.Store.history g.S.Device.Device.history g.S.Frozen.Frozen.content g.S.Device.Device.name g.S.Frozen.Frozen.size g.S.Watch.Watch.counts in
    let old = beside c.args.part.now c.args.jobs.now in
    let new = beside c.sweep.new.part c.args.jobs.now in
    over_of e old new c.from_residual.result (moves_err e old new new c.from_residual.result c.sweep.result c.in_err-sweep.field-0.0 c.from_residual.ensures.1 c.in_err-sweep.was (c.sweep.ensures.moves c.args.jobs.now c.requires.may))

-- ---- the call goes on

pub returns-clause-emptied : goal.returns-clause-emptied
returns-clause-emptied g c =
    let e = eyes g.S.Store.history g.S.Device.Device.history g.S.Frozen.Frozen.content g.S.Device.Device.name g.S.Frozen.Frozen.size g.S.Watch.Watch.counts in
    ok_then c.go_on.result _ _ (λ emptied due.
    let empty = emptied (due_still e c.args.part.now c.sweep.new.part c.sweep.ensures.same g.S.Device.Device.size due) in
    (empty.0, empty.1, empty.2 ∙ ap (λ (s : PartState _ _ _ _). s.generation + 1) c.sweep.ensures.same)) c.go_on.ensures.emptied

pub returns-clause-undue : goal.returns-clause-undue
returns-clause-undue g c =
    let e = eyes g.S.Store.history g.S.Device.Device.history g.S.Frozen.Frozen.content g.S.Device.Device.name g.S.Frozen.Frozen.size g.S.Watch.Watch.counts in
    let same = c.sweep.ensures.same in
    ok_then c.go_on.result _ _ (λ undue not_due.
    let stays = undue (λ due. not_due (due_before e c.args.part.now c.sweep.new.part same g.S.Device.Device.size due)) in
    (stays.0 ∙ ap (λ (s : PartState _ _ _ _). s.active) same, stays.1 ∙ ap (λ (s : PartState _ _ _ _). s.log) same, stays.2 ∙ ap (λ (s : PartState _ _ _ _). s.generation) same, stays.3 ∙ ap (λ (s : PartState _ _ _ _). s.sealed) same, stays.4)) c.go_on.ensures.undue

pub returns-clause-short : goal.returns-clause-short
returns-clause-short g c = subst (λ (s : PartState _ _ _ _). OnOk c.go_on.result (empty_size < s.memory → g.S.Device.Device.size c.go_on.new.part.log.device < s.memory)) c.sweep.ensures.same c.go_on.ensures.short

pub returns-clause-moves : goal.returns-clause-moves
returns-clause-moves g c =
    then_over (eyes g.S.Store.history g.S.Device.Device.history g.S.Frozen.Frozen.content g.S.Device.Device.name g.S.Frozen.Frozen.size g.S.Watch.Watch.counts)
    (beside c.args.part.now c.args.jobs.now) (beside c.sweep.new.part c.args.jobs.now) (beside c.go_on.new.part c.go_on.new.jobs) c.go_on.result c.requires.may
    (c.in_ok-sweep.ensures.moves c.args.jobs.now c.requires.may) c.go_on.ensures.moves

pub returns-clause-listed : goal.returns-clause-listed
returns-clause-listed g c =
    ok_then c.go_on.result _ _ (λ lists. lists_then (eyes g.S.Store.history g.S.Device.Device.history g.S.Frozen.Frozen.content g.S.Device.Device.name
    g.S.Frozen.Frozen.size g.S.Watch.Watch.counts) (beside c.args.part.now c.args.jobs.now) (beside c.sweep.new.part c.args.jobs.now)
    (beside c.go_on.new.part c.go_on.new.jobs) c.args.policy (c.in_ok-sweep.ensures.listed c.args.policy c.args.jobs.now c.requires.picked) lists)
    c.go_on.ensures.listed
