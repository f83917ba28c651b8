-- A record is the record of one document.
use Rattle.std.proofs.Common.{◌≡◌, ◌∙◌, ℕ, true, List, sym, ap}
use Rattle.std.proofs.lemmas.Option.{same_Some}
use Rattle.tc_model.specs.Document.{Document, Scalar}
use Rattle.tc_record.specs.Preorder.{Token}
use Rattle.tc_record.specs.Walk.{Key, Format}
use Rattle.tc_record.specs.Record.{IsRecordOf}
use Rattle.tc_record.specs.Borrowed.{named_tokens}
use Rattle.tc_record.specs.Building.{document_read}
use Rattle.tc_record.proofs.Reading as reading
use Rattle.tc_record.proofs.Built as built

pub documents_are_one : (d e : Document) (bytes : List ℕ) → IsRecordOf d bytes → IsRecordOf e bytes → d ≡ e
documents_are_one d e bytes one other =
    let same = same_Some (record { form = 0; named = true }, named_tokens d) (record { form = 0; named = true }, named_tokens e) (sym (reading.document_again d bytes one) ∙ reading.document_again e bytes other) in
    same_Some d e (sym (built.document_again d) ∙ ap (λ (p : Format × List (Token Key Scalar)). document_read p.1) same ∙ built.document_again e)
