-- A record with numbers has one record with names, whatever names are learned later.
use Rattle.std.proofs.Common.{◌≡◌, ◌∙◌, ℕ, List, [], sym, ap}
use Rattle.std.proofs.lemmas.Option.{same_Some}
use Rattle.tc_model.specs.Document.{Name, Document}
use Rattle.tc_model.specs.Dictionary.{Extends, IsDictionary, number as name_number}
use Rattle.tc_model.proofs.LastingNumbers.{numbers-Extends}
use Rattle.tc_record.specs.Preorder.{tokens_of}
use Rattle.tc_record.specs.Record.{labels, spelling_of, record_in, record_of, IsRecordOf}
use Rattle.tc_record.specs.Walk.{Format}
use Rattle.tc_record.specs.Borrowed.{numbered_tokens}
use Rattle.tc_record.proofs.Built.{document_again}
use Rattle.tc_record.specs.Building.{document_read}
use Rattle.tc_record.proofs.Reading.{numbered_again}
use Rattle.tc_compact.specs.Compacted.{compacted, IsCompactedIn, IsNumberedUnder}
use Rattle.tc_compact.specs.Meant.{tokens_meant}
use Rattle.tc_compact.proofs.Relabelled.{record-numbered}
use Rattle.tc_compact.proofs.Compacts.{Tokens, compacted_record}
use Rattle.tc_compact.proofs.Meanings.{compacted_meant}

pub compacted_stays : (form : ℕ) (d : Document) (whole bytes : List ℕ) (names newer : List Name) → IsRecordOf d whole → IsCompactedIn form names d bytes → IsDictionary newer → Extends newer names → IsCompactedIn form newer d bytes
compacted_stays form d whole bytes names newer is compact dictionary extends =
    let ts = tokens_of d in
    let stay = numbers-Extends newer names (labels ts) extends compact.known in
    compacted_record form newer d whole bytes dictionary is stay.0
    (compact.numbered.spelled ∙ record-numbered form (name_number names) d ∙ ap (λ ks. record_in (spelling_of form) form ts ks []) (sym stay.1)) compact.numbered.short

pub one_record : (d e : Document) (whole other bytes : List ℕ) (names : List Name) → IsRecordOf d whole → IsNumberedUnder names d bytes → IsRecordOf e other → IsNumberedUnder names e bytes → whole ≡ other
one_record d e whole other bytes names is (form, (told, compact)) is_e (form_e, (told_e, compact_e)) =
    let both = same_Some _ _ (sym (numbered_again form told (compacted names d) bytes compact.numbered) ∙ numbered_again form_e told_e (compacted names e) bytes compact_e.numbered) in
    let tokens : numbered_tokens (compacted names d) ≡ numbered_tokens (compacted names e) = ap (λ (p : Format × Tokens). p.1) both in
    let meant = sym (compacted_meant names d compact.known) ∙ ap (tokens_meant names) tokens ∙ compacted_meant names e compact_e.known in
    let same : d ≡ e = same_Some d e (sym (document_again d) ∙ ap document_read meant ∙ document_again e) in
    is.spelled ∙ ap record_of same ∙ sym is_e.spelled
