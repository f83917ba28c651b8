use Rattle.tc_work.specs.Moving.{beside, eyes}
use Rattle.tc_work.proofs.MovingCalls.{over_of}
use Rattle.tc_work.proofs.settling.go_on.Goals as goal

pub returns-else-is_due-clause-moves : goal.returns-else-is_due-clause-moves
returns-else-is_due-clause-moves g c = over_of (eyes g.S.Store.history g.S.Device.Device.history g.S.Frozen.Frozen.content g.S.Device.Device.name
    g.S.Frozen.Frozen.size g.S.Watch.Watch.counts) (beside c.args.part.now c.args.jobs.now) (beside c.merge_on.new.part c.merge_on.new.jobs) c.merge_on.result
    c.merge_on.ensures.moves
