-- What a borrowed record holds, by what was read of its bytes.
use Rattle.std.proofs.Common.{◌≡◌, ◌∙◌, ℕ, Bool, true, false, List, [], Option, None, Some, unwrap_or, is_some, inl, inr, refl, sym, ap}
use Rattle.std.proofs.lemmas.Bool.{both_ways}
use Rattle.std.proofs.lemmas.Option.{same_Some}
use Rattle.tc_bytes.specs.Reading.{◌>>=◌}
use Rattle.tc_bytes.specs.Codec.{IsBytes}
use Rattle.tc_model.specs.Document.{Document, Scalar}
use Rattle.tc_record.specs.Preorder.{Token}
use Rattle.tc_record.specs.Record.{NumberedTree, IsNumberedForm, IsRecordOf, IsNumberedRecordIn}
use Rattle.tc_record.specs.Walk as walk
use Rattle.tc_record.specs.Held.{tokens_held}
use Rattle.tc_record.specs.Sections as cut
use Rattle.tc_record.specs.SectionsView.{cut_columns_of, sections_of}
use Rattle.tc_record.specs.WalkView.{format_of}
use Rattle.tc_record.specs.Borrowed.{Record, SpellsNumbers, Spells, IsRecord, named_tokens, numbered_tokens}
use Rattle.tc_record.specs.declared.sections.Sections.{Sections}
use Rattle.tc_record.proofs.Reading.{document_again, numbered_again, read_found}

abbrev Tokens : Type 0
Tokens = List (Token walk.Key Scalar)

-- a record that was cut and has tokens was read
read_held : (bytes : List ℕ) (s : Sections) (held : Option Tokens) → cut.sections_in bytes ≡ Some (sections_of s) → tokens_held s ≡ held → cut.record_read bytes ≡ (held >>= λ ts. Some (format_of s.format, ts))
read_held bytes s held cut_is is = rw (cut_is, is) refl

spells_held : (bytes : List ℕ) (s : Sections) (held : Option Tokens) → IsBytes bytes → cut.sections_in bytes ≡ Some (sections_of s) → tokens_held s ≡ held → true ≡ is_some held
    → Spells (record { bytes = bytes; form = s.format.form; named = s.format.named; tokens = unwrap_or held [] })
spells_held bytes s None each cut_is is some = cc
spells_held bytes s (Some ts) each cut_is is some = read_found bytes (format_of s.format, ts) each (read_held bytes s (Some ts) cut_is is)

pub held_spells : (bytes : List ℕ) (s : Sections) → IsBytes bytes → cut.sections_in bytes ≡ Some (sections_of s) → true ≡ is_some (tokens_held s)
    → Spells (record { bytes = bytes; form = s.format.form; named = s.format.named; tokens = unwrap_or (tokens_held s) [] })
held_spells bytes s each cut_is some = spells_held bytes s (tokens_held s) each cut_is refl some

-- one without names spells a numbered tree
pub held_numbers : (bytes : List ℕ) (s : Sections) → IsBytes bytes → cut.sections_in bytes ≡ Some (sections_of s) → s.format.named ≡ false → true ≡ is_some (tokens_held s)
    → (n : NumberedTree) × SpellsNumbers (record { bytes = bytes; form = s.format.form; named = s.format.named; tokens = unwrap_or (tokens_held s) [] }) n
held_numbers bytes s each cut_is unnamed some = of_numbers (held_spells bytes s each cut_is some)
  where
    r : Record
    r = record { bytes = bytes; form = s.format.form; named = s.format.named; tokens = unwrap_or (tokens_held s) [] }

    of_numbers : Spells r → (n : NumberedTree) × SpellsNumbers r n
    of_numbers (inl one) = absurd (both_ways s.format.named unnamed one.1.0)
    of_numbers (inr spells) = spells

-- what was read is what the reader answers
same_read : (bytes : List ℕ) (s : Sections) (held : Option Tokens) (f : walk.Format) (ts : Tokens) → cut.sections_in bytes ≡ Some (sections_of s) → tokens_held s ≡ held → cut.record_read bytes ≡ Some (f, ts) → (format_of s.format ≡ f) × (unwrap_or held [] ≡ ts)
same_read bytes s None f ts cut_is is read = none_some (sym (read_held bytes s None cut_is is) ∙ read)
  where
    none_some : {A : Type 0} → ◌≡◌ {A = Option (walk.Format × Tokens)} None (Some (f, ts)) → A
    none_some e = cc
same_read bytes s (Some us) f ts cut_is is read =
    let same = same_Some (format_of s.format, us) (f, ts) (sym (read_held bytes s (Some us) cut_is is) ∙ read) in
    (ap (λ (p : walk.Format × Tokens). p.0) same, ap (λ (p : walk.Format × Tokens). p.1) same)

pub held_document : (bytes : List ℕ) (s : Sections) (d : Document) → cut.sections_in bytes ≡ Some (sections_of s) → IsRecordOf d bytes → (s.format.named ≡ true) × (unwrap_or (tokens_held s) [] ≡ named_tokens d)
held_document bytes s d cut_is is =
    let same = same_read bytes s (tokens_held s) (record { form = 0; named = true }) (named_tokens d) cut_is refl (document_again d bytes is) in
    (ap (λ (f : walk.Format). f.named) same.0, same.1)

pub held_numbered : (bytes : List ℕ) (s : Sections) (form : ℕ) (n : NumberedTree) → cut.sections_in bytes ≡ Some (sections_of s) → IsNumberedForm form → IsNumberedRecordIn form n bytes
    → (s.format.form ≡ form) × (s.format.named ≡ false) × (unwrap_or (tokens_held s) [] ≡ numbered_tokens n)
held_numbered bytes s form n cut_is told is =
    let same = same_read bytes s (tokens_held s) (record { form = form; named = false }) (numbered_tokens n) cut_is refl (numbered_again form told n bytes is) in
    (ap (λ (f : walk.Format). f.form) same.0, ap (λ (f : walk.Format). f.named) same.0, same.1)

-- bytes of which nothing is read are no record
pub unread : (bytes : List ℕ) → cut.record_read bytes ≡ None → IsRecord bytes → ⊥
unread bytes none (inl d) = none_some (sym none ∙ document_again d.0 bytes d.1)
  where
    none_some : {q : walk.Format × Tokens} → ◌≡◌ {A = Option (walk.Format × Tokens)} None (Some q) → ⊥
    none_some e = cc
unread bytes none (inr (n, (form, (told, is)))) = none_some (sym none ∙ numbered_again form told n bytes is)
  where
    none_some : {q : walk.Format × Tokens} → ◌≡◌ {A = Option (walk.Format × Tokens)} None (Some q) → ⊥
    none_some e = cc

-- nothing was cut, or no tokens were read
pub uncut : (bytes : List ℕ) → cut.sections_in bytes ≡ None → cut.record_read bytes ≡ None
uncut bytes none = rw none refl

pub no_tokens : (bytes : List ℕ) (s : Sections) → cut.sections_in bytes ≡ Some (sections_of s) → false ≡ is_some (tokens_held s) → cut.record_read bytes ≡ None
no_tokens bytes s cut_is none = read_held bytes s None cut_is (is_none (tokens_held s) none)
  where
    is_none : (held : Option Tokens) → false ≡ is_some held → held ≡ None
    is_none None e = refl
    is_none (Some ts) e = cc

-- the bytes of a record that spells something are a record
pub spelled_record : (r : Record) → Spells r → IsRecord r.bytes
spelled_record r (inl d) = inl (d.0, d.1.1)
spelled_record r (inr n) = inr (n.0, (r.form, (n.1.3, n.1.1)))

-- what was asked of the columns to be read tells whether there are tokens
pub held_test : (s : Sections) (c : walk.Columns) (r : Bool) → c ≡ cut_columns_of s.columns → r ≡ is_some (walk.tokens_read (format_of s.format) s.tags.now c) → r ≡ is_some (tokens_held s)
held_test s c r same asked = asked ∙ ap (λ d. is_some (walk.tokens_read (format_of s.format) s.tags.now d)) same

-- bytes that are known to be a record are cut, and have tokens
pub known_cut : (bytes : List ℕ) → cut.sections_in bytes ≡ None → IsRecord bytes → ⊥
known_cut bytes none is = unread bytes (uncut bytes none) is

pub known_tokens : (bytes : List ℕ) (s : Sections) → cut.sections_in bytes ≡ Some (sections_of s) → IsRecord bytes → true ≡ is_some (tokens_held s)
known_tokens bytes s cut_is is = by_test (is_some (tokens_held s)) (no_tokens bytes s cut_is)
  where
    by_test : (some : Bool) → (false ≡ some → cut.record_read bytes ≡ None) → true ≡ some
    by_test true none = refl
    by_test false none = absurd (unread bytes (none refl) is)
