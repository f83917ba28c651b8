use Rattle.std.proofs.Common.{◌∙◌, ap}
use Rattle.tc_part_model.specs.PartState.{PartState}
use Rattle.tc_work.specs.Moving.{beside, eyes, told_by}
use Rattle.tc_work.proofs.GivenBack.{failed_then}
use Rattle.tc_work.proofs.KeptJobs.{keeps_then}
use Rattle.tc_work.proofs.finishing.give_back.Goals as goal

pub give_back_flush-requires-clause-failed : goal.give_back_flush-requires-clause-failed
give_back_flush-requires-clause-failed g c κs within = ap (λ (s : PartState _ _ _ _). s.failed) c.give_back_merge.ensures.given ∙ c.requires.failed

pub give_back_flush-requires-clause-jobs : goal.give_back_flush-requires-clause-jobs
give_back_flush-requires-clause-jobs g c κs within = c.give_back_merge.ensures.keeps.jobs

pub returns-clause-keeps : goal.returns-clause-keeps
returns-clause-keeps g c = keeps_then (eyes g.S.Store.history g.S.Device.Device.history g.S.Frozen.Frozen.content g.S.Device.Device.name g.S.Frozen.Frozen.size
    g.S.Watch.Watch.counts) (beside c.args.part.now c.args.jobs.now) (beside c.give_back_merge.new.part c.give_back_merge.new.jobs)
    (beside c.give_back_flush.new.part c.give_back_flush.new.jobs) ⊥ ⊥ ⊥ c.give_back_merge.ensures.keeps c.give_back_flush.ensures.keeps (λ never. never)

pub returns-clause-stays : goal.returns-clause-stays
returns-clause-stays g c = λ p frame has works.
    let e = eyes g.S.Store.history g.S.Device.Device.history g.S.Frozen.Frozen.content g.S.Device.Device.name g.S.Frozen.Frozen.size g.S.Watch.Watch.counts in
    let one = c.give_back_merge.ensures.stays p frame has works in
    let two = c.give_back_flush.ensures.stays p frame one.0 one.1 in
    let given = c.give_back_merge.ensures.given in (
      two.0,
      two.1,
      failed_then p frame (told_by e (beside c.args.part.now c.args.jobs.now)) (told_by e (beside c.give_back_merge.new.part c.give_back_merge.new.jobs)) (e.disks c.give_back_flush.new.part.store) (ap (λ (s : PartState _ _ _ _). e.history s.log.device) given)
          (ap (λ (s : PartState _ _ _ _). (told_by e (beside s c.give_back_merge.new.jobs)).sealed_log) given) one.2 two.2,
    )
