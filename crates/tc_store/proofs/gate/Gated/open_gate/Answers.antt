use Rattle.std.proofs.Common.{◌≡◌, rules}
use Rattle.tc_store.specs.DiskFile.{synced_file}
use Rattle.tc_store.specs.Moments.{goes_on}
use Rattle.tc_store.proofs.GateLemmas.{told_from, short_told, open_failed, open_unsynced, open_whole}
use Rattle.tc_store.proofs.gate.Gated.open_gate.Goals as goal

pub returns-in-Err-write_at-clause-broken_moments :
    goal.returns-in-Err-write_at-clause-broken_moments
returns-in-Err-write_at-clause-broken_moments g c =
    let laws = g.met.D.Device g.world.𝓛 g.world.𝓜 g.world.𝓡 ((λ s x. x), (λ x. x), (λ x. x), λ x. x) in
    let short = short_told (g.D.Device.history c.self.inside.device) (g.D.Device.size c.self.inside.device) c.len-size.ensures.limit (laws.told_size c.self.inside.device) in
    let synced : g.D.Device.history c.sync.new.self ≡ goes_on synced_file (g.D.Device.history c.self.inside.device) = search rules in
    rw (← c.self.view_is) (told_from (g.D.Device.history c.self.inside.device) _ λ f past is.
    open_failed f (g.D.Device.history c.self.inside.device) past (g.D.Device.history c.sync.new.self) _ c.in-Err-write_at.cause c.self.invariant short is synced
    (record { failed = c.in-Err-write_at.ensures.failed; no_memory = c.in-Err-write_at.ensures.no_memory }))

pub returns-in-Ok-clause-moments : goal.returns-in-Ok-clause-moments
returns-in-Ok-clause-moments g c =
    let laws = g.met.D.Device g.world.𝓛 g.world.𝓜 g.world.𝓡 ((λ s x. x), (λ x. x), (λ x. x), λ x. x) in
    let short = short_told (g.D.Device.history c.self.inside.device) (g.D.Device.size c.self.inside.device) c.len-size.ensures.limit (laws.told_size c.self.inside.device) in
    let synced : g.D.Device.history c.sync.new.self ≡ goes_on synced_file (g.D.Device.history c.self.inside.device) = search rules in
    rw (← c.self.view_is) (told_from (g.D.Device.history c.self.inside.device) _ λ f past is.
    open_whole f (g.D.Device.history c.self.inside.device) past (g.D.Device.history c.sync.new.self) (g.D.Device.history c.write_at.new.self) _ c.self.invariant short is synced
    c.in_default-write_at.ensures.written c.in-Ok.ensures.synced)

pub returns-in-Err-sync-clause-broken_moments : goal.returns-in-Err-sync-clause-broken_moments
returns-in-Err-sync-clause-broken_moments g c =
    let laws = g.met.D.Device g.world.𝓛 g.world.𝓜 g.world.𝓡 ((λ s x. x), (λ x. x), (λ x. x), λ x. x) in
    let short = short_told (g.D.Device.history c.self.inside.device) (g.D.Device.size c.self.inside.device) c.len-size.ensures.limit (laws.told_size c.self.inside.device) in
    let synced : g.D.Device.history c.sync.new.self ≡ goes_on synced_file (g.D.Device.history c.self.inside.device) = search rules in
    rw (← c.self.view_is) (told_from (g.D.Device.history c.self.inside.device) _ λ f past is.
    open_unsynced f (g.D.Device.history c.self.inside.device) past (g.D.Device.history c.sync.new.self) (g.D.Device.history c.write_at.new.self) _ c.self.invariant short is synced
    c.in_default-write_at.ensures.written c.in-Err-sync.ensures.failed)
