use Rattle.std.proofs.Common.{◌∙◌, refl, sym, ap, length, arith}
use Rattle.tc_record.specs.Borrowed.{Record}
use Rattle.tc_record.specs.Held.{tokens_held}
use Rattle.tc_record.proofs.Told.{tags_many, tags_few}
use Rattle.tc_record.proofs.record_ref.RecordRef.token_count.Goals as goal

pub overflow_cast-result : goal.overflow_cast-result
overflow_cast-result c =
    let r = c.self.inside in
    let few = tags_few r.bytes.now r.sections c.self.invariant.0 c.self.invariant.1 in omega (arith, few)

pub returns : goal.returns
returns c =
    let r = c.self.inside in
    tags_many r.bytes.now r.sections (tokens_held r.sections) c.self.invariant.0 c.self.invariant.1 refl (sym c.self.invariant.2) ∙ ap (λ (v : Record). length v.tokens) c.self.view_is
