use Rattle.std.proofs.Common.{◌∙◌, ap, subst, sym}
use Rattle.std.specs.Prelude.{Some}
use Rattle.tc_part_model.specs.PartState.{PartState}
use Rattle.tc_work.specs.EngineState.{EngineState}
use Rattle.tc_work.specs.JobsOut.{AreOut}
use Rattle.tc_work.proofs.KeptJobs.{out_as_read}
use Rattle.tc_work.proofs.OpenEngines.{awake_as_read}
use Rattle.tc_work.proofs.engine.Engine.take_watch.Goals as goal

pub take_watch-requires-clause-lent : goal.take_watch-requires-clause-lent
take_watch-requires-clause-lent g c κs within = ap (λ (e : EngineState _ _ _ _). e.part.reader) c.self.view_is ∙ c.requires.out

pub invariant_of-self : goal.invariant_of-self
invariant_of-self g c = λ sound. awake_as_read c.self.inside.part c.take_watch.new.self (Some c.args.watch) c.take_watch.ensures (c.self.invariant sound)

pub returns-clause-home : goal.returns-clause-home
returns-clause-home g c =
    ap (λ (s : PartState _ _ _ _). record { part = record s { failed = c.self.inside.failed }; policy = c.self.inside.policy }) c.take_watch.ensures
    ∙ ap (λ (e : EngineState _ _ _ _). record e { part = record e.part { reader = Some c.args.watch } }) c.self.view_is

pub returns-clause-jobs : goal.returns-clause-jobs
returns-clause-jobs g c = λ jobs out.
    subst (λ (e : EngineState _ _ _ _). AreOut g.S.Store.history g.S.Device.Device.history g.S.Frozen.Frozen.content g.S.Device.Device.name e.part jobs) (sym (returns-clause-home g c))
    (out_as_read g.S.Store.history g.S.Device.Device.history g.S.Frozen.Frozen.content g.S.Device.Device.name c.args.self.now.part (Some c.args.watch) jobs out)
