use Rattle.std.proofs.Common.{◌∙◌, ap}
use Rattle.tc_log.proofs.Appended.{told_settled}
use Rattle.tc_log.proofs.log.Log.give_back.Goals as goal

pub returns-clause-settled : goal.returns-clause-settled
returns-clause-settled g c = λ ok. told_settled (g.D.Device.history c.self.inside.device) (c.self.invariant (ap (λ s. s.failed) c.self.view_is ∙ ok)).1
