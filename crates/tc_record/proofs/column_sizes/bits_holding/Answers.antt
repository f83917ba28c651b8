use Rattle.std.proofs.Common.{◌∙◌, ◌*◌, sym, ap}
use Rattle.tc_record.specs.Record.{width_of, Spelling}
use Rattle.tc_record.proofs.Spellings.{packed_spelling, bytes_spelling}
use Rattle.tc_record.proofs.column_sizes.bits_holding.Goals as goal

pub returns-then-form-eq-PACKED_FORM : goal.returns-then-form-eq-PACKED_FORM
returns-then-form-eq-PACKED_FORM c =
    c.width_of.ensures.digits ∙ ap (λ (s : Spelling). s.bits (s.least c.args.number)) (sym (packed_spelling c.args.form c.if-form-eq-PACKED_FORM.true))

pub returns-else-form-eq-PACKED_FORM : goal.returns-else-form-eq-PACKED_FORM
returns-else-form-eq-PACKED_FORM c =
    ap (λ w. 8 * w) (c.bytes.ensures ∙ c.holding.ensures ∙ ap width_of c.from.ensures) ∙ ap (λ (s : Spelling). s.bits (s.least c.args.number)) (sym (bytes_spelling c.args.form c.if-form-eq-PACKED_FORM.false))
