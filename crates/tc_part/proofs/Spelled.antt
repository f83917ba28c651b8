-- What the bytes at the place of an entry spell.
use Rattle.std.proofs.Common.{◌≡◌, ◌∙◌, ℕ, List, Option, Some, None, inl, inr, refl, sym}
use Rattle.std.specs.Prelude.{Result, Ok, Err, IfOk, IfSome}
use Rattle.tc_model.specs.Document.{Name, Document}
use Rattle.tc_record.specs.Borrowed.{named_tokens, numbered_tokens}
use Rattle.tc_record.specs.Record.{IsNumberedForm}
use Rattle.tc_record.proofs.Reading.{document_again, numbered_again}
use Rattle.tc_compact.specs.Compacted.{compacted}
use Rattle.tc_compact.specs.Meant.{IsRecordUnder}
use Rattle.tc_compact.proofs.Compacts.{two_forms}
use Rattle.tc_component.specs.Meaning.{IsRecordOfOne}
use Rattle.tc_store.specs.declared.damage.Damage.TheVariants.{Bytes, Files}
use Rattle.tc_store.specs.declared.file_name.FileName.{FileName}
use Rattle.tc_part.specs.declared.fault.PartFault.{PartFault}
use Rattle.tc_part.specs.declared.fault.PartFault.TheVariants.{Disk, Damaged, Spent, Memory}
use Rattle.tc_part.specs.Harms.{IsOfRead}

pub of_read_then : (fault : PartFault) (P Q : FileName → ℕ → List ℕ → Type 0) → ((file : FileName) (place : ℕ) (bytes : List ℕ) → P file place bytes → Q file place bytes) → IsOfRead fault P → IsOfRead fault Q
of_read_then Disk P Q f is = tt
of_read_then (Damaged (Bytes file place bytes)) P Q f is = f file place bytes is
of_read_then (Damaged (Files names)) P Q f is = absurd is
of_read_then Spent P Q f is = absurd is
of_read_then Memory P Q f is = tt

-- where a record with numbers is that of one document, no other one is meant
pub one_under : (version : ℕ) (names : List Name) (d e : Document) (bytes : List ℕ) → IsNumberedForm version → IsRecordOfOne version names d bytes → IsRecordUnder names e bytes → e ≡ d
one_under version names d e bytes told one (inl is) =
    absurd (two_forms version (named_tokens e) (numbered_tokens (compacted names d)) (sym (document_again e bytes is) ∙ numbered_again version told (compacted names d) bytes one.record_is.numbered))
one_under version names d e bytes told one (inr is) = one.one e is.0 is.1 is.2

pub if_some_then : {A : Type 0} (o : Option A) (P Q : A → Type 0) → ((x : A) → P x → Q x) → IfSome o P → IfSome o Q
if_some_then None P Q f p = tt
if_some_then (Some x) P Q f p = f x p

pub if_ok_then : {X E : Type 0} (r : Result X E) (P Q : X → Type 0) → ((x : X) → r ≡ Ok x → P x → Q x) → IfOk r P → IfOk r Q
if_ok_then (Ok x) P Q f p = f x refl p
if_ok_then (Err e) P Q f p = tt

pub if_ok_both : {X E : Type 0} (r : Result X E) (P Q R : X → Type 0) → ((x : X) → P x → Q x → R x) → IfOk r P → IfOk r Q → IfOk r R
if_ok_both (Ok x) P Q R f p q = f x p q
if_ok_both (Err e) P Q R f p q = tt
