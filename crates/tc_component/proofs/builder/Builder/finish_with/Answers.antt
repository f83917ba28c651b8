use Rattle.std.proofs.Common.{◌∙◌}
use Rattle.tc_component.specs.Counts.{counts_of}
use Rattle.tc_component.specs.Spelling.{file_bytes}
use Rattle.tc_component.proofs.Closing.{opened_moments, broken_moments}
use Rattle.tc_component.proofs.builder.Builder.finish_with.Goals as goal

pub returns-in-Ok-clause-moments : goal.returns-in-Ok-clause-moments
returns-in-Ok-clause-moments g c =
    let h = g.D.Device.history in
    rw (← c.self.view_is) (λ rows has.
    opened_moments h c.open_gate.result (file_bytes c.self.inside.head rows c.args.names.now (counts_of c.args.schema)) (h c.self.inside.spool.gated) (h c.put_rest.new.spool.gated) c.put_rest.ensures.moments
    (c.in-Ok.ensures.whole rows (c.deref.ensures.value ∙ has.slots) has.bytes) c.open_gate.ensures.moments c.open_gate.ensures.open)

pub returns-in-Ok-clause-broken_moments : goal.returns-in-Ok-clause-broken_moments
returns-in-Ok-clause-broken_moments g c =
    let h = g.D.Device.history in
    rw (← c.self.view_is) (λ rows has.
    broken_moments (λ b. h b.device) c.open_gate.result (file_bytes c.self.inside.head rows c.args.names.now (counts_of c.args.schema)) (h c.self.inside.spool.gated) (h c.put_rest.new.spool.gated) c.put_rest.ensures.moments
    (c.in-Ok.ensures.whole rows (c.deref.ensures.value ∙ has.slots) has.bytes) c.open_gate.ensures.broken_moments c.open_gate.ensures.untold)
