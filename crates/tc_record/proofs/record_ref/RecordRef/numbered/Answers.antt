use Rattle.std.proofs.Common.{◌≡◌, ◌∙◌, sym, subst, refl, None, Some, inr}
use Rattle.tc_bytes.specs.Codec.{IsBytes}
use Rattle.tc_record.specs.Record.{IsNumberedForm}
use Rattle.tc_record.specs.Sections.{sections_in}
use Rattle.tc_record.specs.SectionsView.{sections_of}
use Rattle.tc_record.proofs.Holding.{held_numbers, held_numbered, held_test, unread, uncut, no_tokens}
use Rattle.tc_record.proofs.WholeTexts.{not_texts}
use Rattle.tc_record.proofs.record_ref.RecordRef.numbered.Goals as goal

pub returns-in_err-sections-clause-none : goal.returns-in_err-sections-clause-none
returns-in_err-sections-clause-none c =
    let none : sections_in c.args.bytes.now ≡ None = sym c.sections_of_record.ensures.cut ∙ rw c.in_err-sections.was refl in
    rw c.from_residual.ensures (λ n told is. unread c.args.bytes.now (uncut c.args.bytes.now none) (inr (n, (c.args.form, (told, is)))))

pub returns-then-not-is_numbered-clause-none : goal.returns-then-not-is_numbered-clause-none
returns-then-not-is_numbered-clause-none c =
    let cut : sections_in c.args.bytes.now ≡ Some (sections_of c.in_ok-sections.sections) = sym c.sections_of_record.ensures.cut ∙ rw c.in_ok-sections.was refl in
    λ n told is. let held = held_numbered c.args.bytes.now c.in_ok-sections.sections c.args.form n cut told is in c.is_numbered.ensures.other c.if-not-is_numbered.true held.1 held.0

pub returns-in_err-columns-clause-none : goal.returns-in_err-columns-clause-none
returns-in_err-columns-clause-none c =
    let cut : sections_in c.args.bytes.now ≡ Some (sections_of c.in_ok-sections.sections) = sym c.sections_of_record.ensures.cut ∙ rw c.in_ok-sections.was refl in
    let each : IsBytes c.args.bytes.now = λ i. (c.type_inv.bytes i).fits in
    rw c.from_residual-in_err-columns.ensures (λ n told is. unread c.args.bytes.now (no_tokens c.args.bytes.now c.in_ok-sections.sections cut (not_texts c.args.bytes.now c.in_ok-sections.sections each cut c.in_err-columns.ensures.refused)) (inr (n, (c.args.form, (told, is)))))

pub returns-then-has_numbered_tokens-clause-spells : goal.returns-then-has_numbered_tokens-clause-spells
returns-then-has_numbered_tokens-clause-spells c =
    let cut : sections_in c.args.bytes.now ≡ Some (sections_of c.in_ok-sections.sections) = sym c.sections_of_record.ensures.cut ∙ rw c.in_ok-sections.was refl in
    let each : IsBytes c.args.bytes.now = λ i. (c.type_inv.bytes i).fits in
    held_numbers c.args.bytes.now c.in_ok-sections.sections each cut (c.is_numbered.ensures.told c.if-not-is_numbered.false).0 (sym c.if-has_numbered_tokens.true ∙ held_test c.in_ok-sections.sections _ _ c.in_ok-columns.ensures.same c.has_numbered_tokens.ensures)

pub returns-then-has_numbered_tokens-clause-numbered : goal.returns-then-has_numbered_tokens-clause-numbered
returns-then-has_numbered_tokens-clause-numbered c =
    let s = c.in_ok-sections.sections in
    let cut : sections_in c.args.bytes.now ≡ Some (sections_of s) = sym c.sections_of_record.ensures.cut ∙ rw c.in_ok-sections.was refl in
    let each : IsBytes c.args.bytes.now = λ i. (c.type_inv.bytes i).fits in
    let told = c.is_numbered.ensures.told c.if-not-is_numbered.false in
    let spells = held_numbers c.args.bytes.now s each cut told.0 (sym c.if-has_numbered_tokens.true ∙ held_test s _ _ c.in_ok-columns.ensures.same c.has_numbered_tokens.ensures) in
    let numbered : IsNumberedForm c.args.form = subst IsNumberedForm told.1 spells.1.3 in
    λ n is. (held_numbered c.args.bytes.now s c.args.form n cut numbered is).2

pub returns-else-has_numbered_tokens-clause-none : goal.returns-else-has_numbered_tokens-clause-none
returns-else-has_numbered_tokens-clause-none c =
    let cut : sections_in c.args.bytes.now ≡ Some (sections_of c.in_ok-sections.sections) = sym c.sections_of_record.ensures.cut ∙ rw c.in_ok-sections.was refl in
    λ n told is. unread c.args.bytes.now (no_tokens c.args.bytes.now c.in_ok-sections.sections cut (sym c.if-has_numbered_tokens.false ∙ held_test c.in_ok-sections.sections _ _ c.in_ok-columns.ensures.same c.has_numbered_tokens.ensures)) (inr (n, (c.args.form, (told, is))))
