use Rattle.std.proofs.Common.{◌∙◌, refl, sym, ap}
use Rattle.tc_record.specs.Borrowed.{Record}
use Rattle.tc_record.specs.Record.{greatest}
use Rattle.tc_record.proofs.Spelled.{slots}
use Rattle.tc_record.proofs.Told.{greatest_held, numbers_held}
use Rattle.tc_record.proofs.record_ref.RecordRef.greatest_slot.Goals as goal

pub returns : goal.returns
returns c =
    let r = c.self.inside in
    λ n same.
    greatest_held r.bytes.now r.sections c.self.invariant.0 c.self.invariant.1 (sym c.self.invariant.2) c.self.invariant.3
    ∙ ap (λ (v : Record). greatest (slots v.tokens)) c.self.view_is
    ∙ ap greatest (numbers_held c.args.self.now.tokens n (slots c.args.self.now.tokens) refl same)
