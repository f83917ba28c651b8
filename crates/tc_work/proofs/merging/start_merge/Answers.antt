use Rattle.std.proofs.Common.{◌∙◌, true, refl, ap}
use Rattle.std.specs.Prelude.{Err}
use Rattle.tc_work.specs.Moving.{beside, eyes, told_by}
use Rattle.tc_work.proofs.MovingCalls.{err_is, moves_not, moves_nothing}
use Rattle.tc_work.proofs.merging.start_merge.Goals as goal

pub returns-then-is_merging-clause-moves : goal.returns-then-is_merging-clause-moves
returns-then-is_merging-clause-moves g c = moves_nothing (eyes g.S.Store.history g.S.Device.Device.history g.S.Frozen.Frozen.content g.S.Device.Device.name g.S.Frozen.Frozen.size g.S.Watch.Watch.counts) (beside c.args.part.now c.args.jobs.now) c.requires.may

pub returns-in_err-run-clause-moves : goal.returns-in_err-run-clause-moves
returns-in_err-run-clause-moves g c =
    let e = eyes g.S.Store.history g.S.Device.Device.history g.S.Frozen.Frozen.content g.S.Device.Device.name g.S.Frozen.Frozen.size g.S.Watch.Watch.counts in
    let t = told_by e (beside c.args.part.now c.args.jobs.now) in
    moves_not e (beside c.args.part.now c.args.jobs.now) c.requires.may (λ p is. c.failed_parts_keep_files.ensures.fails t (record t { failed = true }) p is refl refl refl refl) c.from_residual.result
    (err_is c.from_residual.result c.in_err-run.field-0.0 c.from_residual.ensures.1 ∙ ap Err c.in_err-run.ensures.no_memory)

pub returns-in-None-clause-moves : goal.returns-in-None-clause-moves
returns-in-None-clause-moves g c = moves_nothing (eyes g.S.Store.history g.S.Device.Device.history g.S.Frozen.Frozen.content g.S.Device.Device.name g.S.Frozen.Frozen.size g.S.Watch.Watch.counts) (beside c.args.part.now c.args.jobs.now) c.requires.may
