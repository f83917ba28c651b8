use Rattle.std.proofs.Common.{◌≡◌, ◌∙◌, true, is_some, ap, sym, subst}
use Rattle.std.specs.Prelude.{Ok}
use Rattle.tc_list.specs.declared.policy.Policy.{Policy}
use Rattle.tc_part_model.specs.PartState.{PartState, told}
use Rattle.tc_work.specs.Ending.{Finishes}
use Rattle.tc_work.specs.EngineState.{EngineState}
use Rattle.tc_work.specs.Moving.{beside, eyes, IsOutBy, MayMove}
use Rattle.tc_work.proofs.EmptyLogs.{unwritten}
use Rattle.tc_work.proofs.GivenBack.{out_inside}
use Rattle.tc_work.proofs.OpenEngines.{inside_is}
use Rattle.tc_work.proofs.engine.Engine.finish.Given.{Over}
use Rattle.tc_work.proofs.engine.Engine.finish.Goals as goal

-- ---- of an engine that failed

pub close_failed-requires-clause-jobs : goal.close_failed-requires-clause-jobs
close_failed-requires-clause-jobs g c κs within =
    out_inside (eyes g.S.Store.history g.S.Device.Device.history g.S.Frozen.Frozen.content g.S.Device.Device.name g.S.Frozen.Frozen.size g.S.Watch.Watch.counts)
    c.self.inside.part c.self.inside.failed c.args.jobs (subst (λ (s : PartState _ _ _ _). IsOutBy
    (eyes g.S.Store.history g.S.Device.Device.history g.S.Frozen.Frozen.content g.S.Device.Device.name g.S.Frozen.Frozen.size g.S.Watch.Watch.counts)
    (beside s c.args.jobs)) (sym (ap (λ (x : EngineState _ _ _ _). x.part) c.self.view_is)) c.requires.jobs)

pub close_failed-requires-clause-reader : goal.close_failed-requires-clause-reader
close_failed-requires-clause-reader g c κs within = ap (λ (x : EngineState _ _ _ _). is_some x.part.reader) c.self.view_is ∙ c.requires.reader

failed_ended : (g : Over) (c : goal.After-drop-progress g) → Finishes
    (eyes g.S.Store.history g.S.Device.Device.history g.S.Frozen.Frozen.content g.S.Device.Device.name g.S.Frozen.Frozen.size g.S.Watch.Watch.counts)
    g.S.Device.Device.size c.args.self.policy (beside c.args.self.part c.args.jobs) (Ok tt) c.close_failed.result.store c.close_failed.result.main
    c.close_failed.result.flusher c.close_failed.result.merger c.close_failed.result.reader
failed_ended g c =
    let same : record c.self.inside.part { failed = true } ≡ c.args.self.part = ap (λ b. record c.self.inside.part { failed = b }) (sym c.if-failed.true) ∙ ap (λ (x : EngineState _ _ _ _). x.part) c.self.view_is in
    subst (λ (s : PartState _ _ _ _). Finishes (eyes g.S.Store.history g.S.Device.Device.history g.S.Frozen.Frozen.content g.S.Device.Device.name
    g.S.Frozen.Frozen.size g.S.Watch.Watch.counts) g.S.Device.Device.size c.args.self.policy (beside s c.args.jobs) (Ok tt) c.close_failed.result.store
    c.close_failed.result.main c.close_failed.result.flusher c.close_failed.result.merger c.close_failed.result.reader) same
    (c.close_failed.ensures.ends c.args.self.policy)

pub returns-then-failed-clause-ends : goal.returns-then-failed-clause-ends
returns-then-failed-clause-ends g c = failed_ended g c

pub returns-then-failed-clause-unwritten : goal.returns-then-failed-clause-unwritten
returns-then-failed-clause-unwritten g c = λ p is tells works short.
    let t = told g.S.Store.history g.S.Device.Device.history g.S.Frozen.Frozen.content c.args.self.part in
    let laws = g.met.S.Device.Device g.world.𝓛 g.world.𝓜 g.world.𝓡 ((λ s x. x), (λ x. x), (λ x. x), λ x. x) in
    let device = c.args.self.part.log.device in
    unwritten t p (g.S.Device.Device.size device) is tells.store (laws.told_size device) (laws.content_may_stay device) short

-- ---- of one that had not

pub finish_part-requires-clause-may : goal.finish_part-requires-clause-may
finish_part-requires-clause-may g c κs within = subst (λ (s : PartState _ _ _ _). MayMove
    (eyes g.S.Store.history g.S.Device.Device.history g.S.Frozen.Frozen.content g.S.Device.Device.name g.S.Frozen.Frozen.size g.S.Watch.Watch.counts)
    (beside s c.args.jobs)) (sym (inside_is c.self.inside.part c.self.inside.failed c.args.self.part (ap (λ (x : EngineState _ _ _ _). x.part) c.self.view_is)
    (sym (ap (λ (x : EngineState _ _ _ _). x.part.failed) c.self.view_is) ∙ c.if-failed.false) c.self.invariant))
    (record {
      sound = (sym (ap (λ (x : EngineState _ _ _ _). x.part.failed) c.self.view_is) ∙ c.if-failed.false);
      ready = c.requires.ready (sym (ap (λ (x : EngineState _ _ _ _). x.part.failed) c.self.view_is) ∙ c.if-failed.false);
      jobs = c.requires.jobs;
    })

pub finish_part-requires-clause-flushing : goal.finish_part-requires-clause-flushing
finish_part-requires-clause-flushing g c κs within = (c.self.invariant c.if-failed.false).flushing

pub finish_part-requires-clause-picked : goal.finish_part-requires-clause-picked
finish_part-requires-clause-picked g c κs within = (c.self.invariant c.if-failed.false).picked

pub finish_part-requires-clause-reader : goal.finish_part-requires-clause-reader
finish_part-requires-clause-reader g c κs within = ap (λ (x : EngineState _ _ _ _). is_some x.part.reader) c.self.view_is ∙ c.requires.reader

sound_ended : (g : Over) (c : goal.After-drop-progress-2 g) → Finishes
    (eyes g.S.Store.history g.S.Device.Device.history g.S.Frozen.Frozen.content g.S.Device.Device.name g.S.Frozen.Frozen.size g.S.Watch.Watch.counts)
    g.S.Device.Device.size c.args.self.policy (beside c.args.self.part c.args.jobs) c.finish_part.result.outcome c.finish_part.result.kit.store
    c.finish_part.result.kit.main c.finish_part.result.kit.flusher c.finish_part.result.kit.merger c.finish_part.result.kit.reader
sound_ended g c =
    let result = c.finish_part.result in
    subst (λ (policy : Policy). Finishes (eyes g.S.Store.history g.S.Device.Device.history g.S.Frozen.Frozen.content g.S.Device.Device.name g.S.Frozen.Frozen.size
    g.S.Watch.Watch.counts) g.S.Device.Device.size policy (beside c.args.self.part c.args.jobs) result.outcome result.kit.store result.kit.main result.kit.flusher
    result.kit.merger result.kit.reader) (ap (λ (x : EngineState _ _ _ _). x.policy) c.self.view_is)
    (subst (λ (s : PartState _ _ _ _). Finishes (eyes g.S.Store.history g.S.Device.Device.history g.S.Frozen.Frozen.content g.S.Device.Device.name
    g.S.Frozen.Frozen.size g.S.Watch.Watch.counts) g.S.Device.Device.size c.self.inside.policy (beside s c.args.jobs) result.outcome result.kit.store
    result.kit.main result.kit.flusher result.kit.merger result.kit.reader)
    (inside_is c.self.inside.part c.self.inside.failed c.args.self.part (ap (λ (x : EngineState _ _ _ _). x.part) c.self.view_is)
    (sym (ap (λ (x : EngineState _ _ _ _). x.part.failed) c.self.view_is) ∙ c.if-failed.false) c.self.invariant) c.finish_part.ensures.ends)

pub returns-clause-ends : goal.returns-clause-ends
returns-clause-ends g c = sound_ended g c

pub returns-clause-unwritten : goal.returns-clause-unwritten
returns-clause-unwritten g c = λ p is tells works short.
    let t = told g.S.Store.history g.S.Device.Device.history g.S.Frozen.Frozen.content c.args.self.part in
    let laws = g.met.S.Device.Device g.world.𝓛 g.world.𝓜 g.world.𝓡 ((λ s x. x), (λ x. x), (λ x. x), λ x. x) in
    let device = c.args.self.part.log.device in
    unwritten t p (g.S.Device.Device.size device) is tells.store (laws.told_size device) (laws.content_may_stay device) short
