use Rattle.std.proofs.Common.{◌∙◌, refl, sym, ap, length, map}
use Rattle.tc_record.specs.Borrowed.{Record}
use Rattle.tc_record.specs.Held.{tokens_held}
use Rattle.tc_record.specs.Record.{texts}
use Rattle.tc_record.proofs.Told.{lengths_held}
use Rattle.tc_record.proofs.record_ref.RecordRef.text_lengths.Goals as goal

pub returns : goal.returns
returns c =
    let r = c.self.inside in
    c.of.ensures ∙ lengths_held r.bytes.now r.sections (tokens_held r.sections) c.self.invariant.0 c.self.invariant.1 refl (sym c.self.invariant.2) ∙ ap (λ (v : Record). map length (texts v.tokens)) c.self.view_is
