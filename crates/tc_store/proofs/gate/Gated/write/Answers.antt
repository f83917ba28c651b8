use Rattle.tc_store.proofs.GateLemmas.{shut_write_leaves, shut_write}
use Rattle.tc_store.proofs.gate.Gated.write.Goals as goal

pub invariant_of-self : goal.invariant_of-self
invariant_of-self g c =
    shut_write c.args.at c.args.bytes.now (g.D.Device.history c.self.inside.device) _ c.write_at.result c.requires.behind_gate
    c.write_at.ensures.written c.write_at.ensures.failed c.write_at.ensures.no_memory c.self.invariant

pub returns-clause-moments : goal.returns-clause-moments
returns-clause-moments g c =
    rw (← c.self.view_is) (shut_write_leaves c.args.at c.args.bytes.now (g.D.Device.history c.self.inside.device) _ c.write_at.result c.requires.behind_gate
    c.write_at.ensures.written c.write_at.ensures.failed c.write_at.ensures.no_memory c.self.invariant)
