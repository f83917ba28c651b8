use Rattle.std.proofs.Common.{◌∙◌, is_some, ap, subst, sym}
use Rattle.std.specs.Prelude.{None}
use Rattle.tc_part_model.specs.PartState.{PartState}
use Rattle.tc_work.specs.EngineState.{EngineState}
use Rattle.tc_work.specs.JobsOut.{AreOut}
use Rattle.tc_work.proofs.KeptJobs.{out_as_read}
use Rattle.tc_work.proofs.OpenEngines.{awake_as_read}
use Rattle.tc_work.proofs.engine.Engine.lend_watch.Goals as goal

pub lend_watch-requires-clause-there : goal.lend_watch-requires-clause-there
lend_watch-requires-clause-there g c κs within = ap (λ (e : EngineState _ _ _ _). is_some e.part.reader) c.self.view_is ∙ c.requires.home

pub invariant_of-self : goal.invariant_of-self
invariant_of-self g c = λ sound. awake_as_read c.self.inside.part c.lend_watch.new.self None c.lend_watch.ensures.same (c.self.invariant sound)

pub returns-clause-lent : goal.returns-clause-lent
returns-clause-lent g c = c.lend_watch.ensures.lent ∙ ap (λ (e : EngineState _ _ _ _). e.part.reader) c.self.view_is

pub returns-clause-out : goal.returns-clause-out
returns-clause-out g c =
    ap (λ (s : PartState _ _ _ _). record { part = record s { failed = c.self.inside.failed }; policy = c.self.inside.policy }) c.lend_watch.ensures.same
    ∙ ap (λ (e : EngineState _ _ _ _). record e { part = record e.part { reader = None } }) c.self.view_is

pub returns-clause-jobs : goal.returns-clause-jobs
returns-clause-jobs g c = λ jobs out.
    subst (λ (e : EngineState _ _ _ _). AreOut g.S.Store.history g.S.Device.Device.history g.S.Frozen.Frozen.content g.S.Device.Device.name e.part jobs) (sym (returns-clause-out g c))
    (out_as_read g.S.Store.history g.S.Device.Device.history g.S.Frozen.Frozen.content g.S.Device.Device.name c.args.self.now.part None jobs out)
