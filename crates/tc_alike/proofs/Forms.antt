-- What the bytes of a record without names tell of it.
use Rattle.std.proofs.Common.{◌≡◌, ◌∙◌, ℕ, false, sym, ap, inl, inr}
use Rattle.std.proofs.lemmas.Option.{same_Some}
use Rattle.tc_record.specs.Record.{NumberedTree, IsNumberedForm, IsNumberedRecordIn}
use Rattle.tc_record.specs.Borrowed.{Record, Spells, named_tokens, numbered_tokens}
use Rattle.tc_record.specs.Walk.{Format}
use Rattle.tc_record.proofs.Reading.{document_again, numbered_again}
use Rattle.tc_compact.proofs.Compacts.{Tokens, two_forms}

-- its form is that of each tree that they spell
pub tree_form : (r : Record) (form : ℕ) (n : NumberedTree) → Spells r → IsNumberedForm form → IsNumberedRecordIn form n r.bytes → r.form ≡ form
tree_form r form n (inl one) told is = absurd (two_forms form (named_tokens one.0) (numbered_tokens n) (sym (document_again one.0 r.bytes one.1.1) ∙ numbered_again form told n r.bytes is))
tree_form r form n (inr one) told is =
    ap (λ (p : Format × Tokens). p.0.form) (same_Some _ _ (sym (numbered_again r.form one.1.3 one.0 r.bytes one.1.1) ∙ numbered_again form told n r.bytes is))

-- and it has no names
pub tree_unnamed : (r : Record) (form : ℕ) (n : NumberedTree) → Spells r → IsNumberedForm form → IsNumberedRecordIn form n r.bytes → r.named ≡ false
tree_unnamed r form n (inl one) told is = absurd (two_forms form (named_tokens one.0) (numbered_tokens n) (sym (document_again one.0 r.bytes one.1.1) ∙ numbered_again form told n r.bytes is))
tree_unnamed r form n (inr one) told is = one.1.0
