use Rattle.tc_work.proofs.engine.Engine.components_are_own.Goals as goal

pub returns : goal.returns
returns g c = rw (← c.self.view_is) c.components_are_own.ensures
