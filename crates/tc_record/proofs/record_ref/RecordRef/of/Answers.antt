use Rattle.std.proofs.Common.{◌≡◌, ◌∙◌, sym, refl, None, Some}
use Rattle.tc_bytes.specs.Codec.{IsBytes}
use Rattle.tc_record.specs.Sections.{sections_in}
use Rattle.tc_record.specs.SectionsView.{sections_of}
use Rattle.tc_record.proofs.Holding.{held_spells, held_document, held_numbered, held_test, unread, uncut, no_tokens}
use Rattle.tc_record.proofs.WholeTexts.{not_texts}
use Rattle.tc_record.proofs.record_ref.RecordRef.of.Goals as goal

pub returns-in_err-sections-clause-none : goal.returns-in_err-sections-clause-none
returns-in_err-sections-clause-none c =
    let none : sections_in c.args.bytes.now ≡ None = sym c.sections_of_record.ensures.cut ∙ rw c.in_err-sections.was refl in
    rw c.from_residual.ensures (unread c.args.bytes.now (uncut c.args.bytes.now none))

pub returns-in_err-columns-clause-none : goal.returns-in_err-columns-clause-none
returns-in_err-columns-clause-none c =
    let cut : sections_in c.args.bytes.now ≡ Some (sections_of c.in_ok-sections.sections) = sym c.sections_of_record.ensures.cut ∙ rw c.in_ok-sections.was refl in
    let each : IsBytes c.args.bytes.now = λ i. (c.type_inv.bytes i).fits in
    rw c.from_residual-in_err-columns.ensures (unread c.args.bytes.now (no_tokens c.args.bytes.now c.in_ok-sections.sections cut (not_texts c.args.bytes.now c.in_ok-sections.sections each cut c.in_err-columns.ensures.refused)))

pub returns-then-has_tokens-clause-spells : goal.returns-then-has_tokens-clause-spells
returns-then-has_tokens-clause-spells c =
    let cut : sections_in c.args.bytes.now ≡ Some (sections_of c.in_ok-sections.sections) = sym c.sections_of_record.ensures.cut ∙ rw c.in_ok-sections.was refl in
    let each : IsBytes c.args.bytes.now = λ i. (c.type_inv.bytes i).fits in
    held_spells c.args.bytes.now c.in_ok-sections.sections each cut (sym c.if-has_tokens.true ∙ held_test c.in_ok-sections.sections _ _ c.in_ok-columns.ensures.same c.has_tokens.ensures)

pub returns-then-has_tokens-clause-document : goal.returns-then-has_tokens-clause-document
returns-then-has_tokens-clause-document c =
    let cut : sections_in c.args.bytes.now ≡ Some (sections_of c.in_ok-sections.sections) = sym c.sections_of_record.ensures.cut ∙ rw c.in_ok-sections.was refl in
    λ d is. held_document c.args.bytes.now c.in_ok-sections.sections d cut is

pub returns-then-has_tokens-clause-numbered : goal.returns-then-has_tokens-clause-numbered
returns-then-has_tokens-clause-numbered c =
    let cut : sections_in c.args.bytes.now ≡ Some (sections_of c.in_ok-sections.sections) = sym c.sections_of_record.ensures.cut ∙ rw c.in_ok-sections.was refl in
    λ form n told is. held_numbered c.args.bytes.now c.in_ok-sections.sections form n cut told is

pub returns-else-has_tokens-clause-none : goal.returns-else-has_tokens-clause-none
returns-else-has_tokens-clause-none c =
    let cut : sections_in c.args.bytes.now ≡ Some (sections_of c.in_ok-sections.sections) = sym c.sections_of_record.ensures.cut ∙ rw c.in_ok-sections.was refl in
    unread c.args.bytes.now (no_tokens c.args.bytes.now c.in_ok-sections.sections cut (sym c.if-has_tokens.false ∙ held_test c.in_ok-sections.sections _ _ c.in_ok-columns.ensures.same c.has_tokens.ensures))
