use Rattle.tc_store.specs.Gate.{IsClosed, IsGateShut}
use Rattle.tc_store.specs.Moments.{LeavesAt}
use Rattle.tc_store.proofs.GateLemmas.{shut_leaves}
use Rattle.tc_store.proofs.MomentLemmas.{told_map}
use Rattle.tc_store.proofs.gate.Gated.give_back.Goals as goal

pub returns-clause-closed : goal.returns-clause-closed
returns-clause-closed g c = told_map IsGateShut (LeavesAt IsClosed) (g.D.Device.history c.self.inside.device) shut_leaves c.self.invariant
