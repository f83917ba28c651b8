use Rattle.tc_store.proofs.GateLemmas.{begins_told, gate_write_failed, gate_unsynced, gate_begun}
use Rattle.tc_store.proofs.gate.Gated.begin.Goals as goal

pub returns-in-Err-clause-broken_moments : goal.returns-in-Err-clause-broken_moments
returns-in-Err-clause-broken_moments g c old shut =
    let moments = g.D.Device.history c.args.device in
    let laws = g.met.D.Device g.world.𝓛 g.world.𝓜 g.world.𝓡 ((λ s x. x), (λ x. x), (λ x. x), λ x. x) in
    gate_write_failed old moments _ c.in-Err.cause
    (record { failed = c.in-Err.ensures.failed; no_memory = c.in-Err.ensures.no_memory })
    (begins_told old moments (g.D.Device.size c.args.device) c.requires (laws.told_size c.args.device) (laws.content_may_stay c.args.device) shut)

pub returns-in-Err-sync-clause-broken_moments : goal.returns-in-Err-sync-clause-broken_moments
returns-in-Err-sync-clause-broken_moments g c old shut =
    let moments = g.D.Device.history c.args.device in
    let laws = g.met.D.Device g.world.𝓛 g.world.𝓜 g.world.𝓡 ((λ s x. x), (λ x. x), (λ x. x), λ x. x) in
    gate_unsynced old moments (g.D.Device.history c.write_at.new.self) _ c.in_default.ensures.written c.in-Err-sync.ensures.failed
    (begins_told old moments (g.D.Device.size c.args.device) c.requires (laws.told_size c.args.device) (laws.content_may_stay c.args.device) shut)

pub returns-in-Ok-clause-moments : goal.returns-in-Ok-clause-moments
returns-in-Ok-clause-moments g c old shut =
    let moments = g.D.Device.history c.args.device in
    let laws = g.met.D.Device g.world.𝓛 g.world.𝓜 g.world.𝓡 ((λ s x. x), (λ x. x), (λ x. x), λ x. x) in
    gate_begun old moments (g.D.Device.history c.write_at.new.self) _ c.in_default.ensures.written c.in-Ok.ensures.synced
    (begins_told old moments (g.D.Device.size c.args.device) c.requires (laws.told_size c.args.device) (laws.content_may_stay c.args.device) shut)
