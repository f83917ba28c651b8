use Rattle.std.proofs.Common.{◌∙◌, refl, sym, ap}
use Rattle.tc_record.specs.Borrowed.{Record}
use Rattle.tc_record.specs.Held.{tokens_held}
use Rattle.tc_record.proofs.Spelled.{slots}
use Rattle.tc_record.proofs.Told.{slots_held, numbers_held}
use Rattle.tc_record.proofs.record_ref.RecordRef.slots.Goals as goal

pub returns : goal.returns
returns c =
    let r = c.self.inside in
    λ n same.
    numbers_held c.args.self.now.tokens n c.of.result (c.of.ensures ∙ slots_held r.bytes.now r.sections (tokens_held r.sections) c.self.invariant.0 c.self.invariant.1 refl (sym c.self.invariant.2) ∙ ap (λ (v : Record). slots v.tokens) c.self.view_is) same
