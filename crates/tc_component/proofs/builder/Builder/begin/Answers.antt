use Rattle.std.proofs.Common.{sym, subst}
use Rattle.tc_store.specs.Gate.{IsShutOr}
use Rattle.tc_store.specs.Moments.{LeavesOnly}
use Rattle.tc_component.proofs.Closing.{begun_shut}
use Rattle.tc_component.proofs.builder.Builder.begin.Goals as goal

pub returns-in-Ok-write-clause-moments : goal.returns-in-Ok-write-clause-moments
returns-in-Ok-write-clause-moments g c before shut =
    begun_shut before (g.D.Device.history c.args.device) (g.D.Device.history c.in-Ok.gated) (g.D.Device.history c.write.new.self) (c.in-Ok.ensures.moments before shut) c.write.ensures.moments

pub returns-in-Err-write-clause-broken_moments : goal.returns-in-Err-write-clause-broken_moments
returns-in-Err-write-clause-broken_moments g c before shut =
    subst (λ d. LeavesOnly (IsShutOr before) (g.D.Device.history c.args.device) (g.D.Device.history d)) (sym c.give_back.ensures.same)
    (begun_shut before (g.D.Device.history c.args.device) (g.D.Device.history c.in-Ok.gated) (g.D.Device.history c.write.new.self) (c.in-Ok.ensures.moments before shut) c.write.ensures.moments)
