use Rattle.std.proofs.Common.{◌≡◌, ◌<◌, sym, subst}
use Rattle.std.specs.Prelude.{IfNone, IfSome}
use Rattle.tc_record.specs.Record.{Spelling}
use Rattle.tc_record.proofs.Spellings.{packed_spelling, bytes_spelling}
use Rattle.tc_record.proofs.sections.bits_told.Goals as goal

pub returns-then-form-eq-PACKED_FORM-clause-same : goal.returns-then-form-eq-PACKED_FORM-clause-same
returns-then-form-eq-PACKED_FORM-clause-same c =
    subst (λ (s : Spelling). IfSome c.bits_of_width.result (λ bits. bits ≡ s.bits c.args.told)) (sym (packed_spelling c.args.form c.if-form-eq-PACKED_FORM.true)) c.bits_of_width.ensures.same

pub returns-then-form-eq-PACKED_FORM-clause-beyond : goal.returns-then-form-eq-PACKED_FORM-clause-beyond
returns-then-form-eq-PACKED_FORM-clause-beyond c =
    subst (λ (s : Spelling). IfNone c.bits_of_width.result (32 < s.bits c.args.told)) (sym (packed_spelling c.args.form c.if-form-eq-PACKED_FORM.true)) c.bits_of_width.ensures.beyond

pub returns-else-form-eq-PACKED_FORM-clause-same : goal.returns-else-form-eq-PACKED_FORM-clause-same
returns-else-form-eq-PACKED_FORM-clause-same c =
    subst (λ (s : Spelling). IfSome c.bits_of_bytes.result (λ bits. bits ≡ s.bits c.args.told)) (sym (bytes_spelling c.args.form c.if-form-eq-PACKED_FORM.false)) c.bits_of_bytes.ensures.same

pub returns-else-form-eq-PACKED_FORM-clause-beyond : goal.returns-else-form-eq-PACKED_FORM-clause-beyond
returns-else-form-eq-PACKED_FORM-clause-beyond c =
    subst (λ (s : Spelling). IfNone c.bits_of_bytes.result (32 < s.bits c.args.told)) (sym (bytes_spelling c.args.form c.if-form-eq-PACKED_FORM.false)) c.bits_of_bytes.ensures.beyond
