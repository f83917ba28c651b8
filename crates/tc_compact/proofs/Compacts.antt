-- What the bytes of a record tell of its columns, and the record with numbers of one with names, part by part.
use Rattle.std.proofs.Common.{◌≡◌, ◌∙◌, ℕ, ◌+◌, ◌<◌, ◌≤◌, ◌^◌, true, false, List, [], ◌∷◌, Option, None, Some, unwrap_or, length, map, inl, inr, refl, sym, ap, subst, arith}
use Rattle.std.proofs.lemmas.Bool.{true≢false, both_ways}
use Rattle.std.proofs.lemmas.List.{length-map}
use Rattle.std.proofs.lemmas.Option.{same_Some}
use Rattle.tc_bits.proofs.Joined.{AreBelow}
use Rattle.tc_model.specs.Document.{Name, Document, Scalar}
use Rattle.tc_model.specs.Dictionary.{number_of, IsDictionary, number as name_number}
use Rattle.tc_model.specs.KnownNames.{HasEach}
use Rattle.tc_model.proofs.NameNumbers.{number_of-below}
use Rattle.tc_record.specs.Preorder.{Token, tokens_of}
use Rattle.tc_record.specs.Record.{tags, fixed, texts, labels, joined, header_size, in_bytes, spelling_of, column_in, record_in, record_of, IsRecordOf}
use Rattle.tc_record.specs.Walk.{Key, Format, name}
use Rattle.tc_record.specs.Borrowed.{Record, Spells, named_tokens, numbered_tokens}
use Rattle.tc_record.proofs.ColumnSizes.{column_in-most}
use Rattle.tc_record.proofs.NumberLengths.{bytes_each}
use Rattle.tc_record.proofs.Reading.{document_again, numbered_again, small_texts}
use Rattle.tc_record.proofs.Spelled.{slots, names as name_bytes}
use Rattle.tc_record.proofs.Spellings.{form_spells}
use Rattle.tc_record.proofs.Keyed.{preorder-relabel, labels-retoken, record_of-keyed, record_in-numbered}
use Rattle.tc_compact.specs.Compacted.{IsCompactedIn}
use Rattle.tc_compact.specs.Slots.{names_in}
use Rattle.tc_compact.specs.Layout.{Parts, parts_of, values, whole}
use Rattle.tc_compact.proofs.Relabelled.{depth-numbered, object-numbered, lawful-numbered, names_in-to_names, record-numbered}
use Rattle.tc_compact.proofs.Laid.{record_laid, values_length, whole_length, parts-retoken}

-- ---- the document of a record with names

abbrev pub Tokens : Type 0
Tokens = List (Token Key Scalar)

pub two_forms : (form : ℕ) (ts us : Tokens) → ◌≡◌ {A = Option (Format × Tokens)} (Some (record { form = 0; named = true }, ts)) (Some (record { form = form; named = false }, us)) → ⊥
two_forms form ts us e = true≢false (ap (λ (p : Format × Tokens). p.0.named) (same_Some _ _ e))

-- a record that spells something has the tokens of its document
pub document_tokens : (r : Record) (d : Document) → Spells r → IsRecordOf d r.bytes → (r.named ≡ true) × (r.tokens ≡ named_tokens d)
document_tokens r d (inl one) is = (one.1.0, one.1.2 ∙ ap (λ (p : Format × Tokens). p.1) (same_Some _ _ (sym (document_again one.0 r.bytes one.1.1) ∙ document_again d r.bytes is)))
document_tokens r d (inr one) is = absurd (two_forms r.form (named_tokens d) (numbered_tokens one.0) (sym (document_again d r.bytes is) ∙ numbered_again r.form one.1.3 one.0 r.bytes one.1.1))

pub document_names : (d : Document) → names_in (named_tokens d) ≡ labels (tokens_of d)
document_names d = ap names_in (preorder-relabel name d None) ∙ names_in-to_names (λ n. n) (tokens_of d) ∙ same (labels (tokens_of d))
  where
    same : (ls : List Name) → map (λ n. n) ls ≡ ls
    same [] = refl
    same (l ∷ ls) = ap (λ ns. l ∷ ns) (same ls)

-- a record with names has a document
pub named_document : (r : Record) → Spells r → r.named ≡ true → (d : Document) × IsRecordOf d r.bytes
named_document r (inl one) named = (one.0, one.1.1)
named_document r (inr one) named = absurd (both_ways r.named one.1.0 named)

-- ---- the columns of a record

-- the bytes of a record are those of its tokens
pub record_spelled : (r : Record) → Spells r → r.bytes ≡ record_in (spelling_of r.form) r.form r.tokens (slots r.tokens) (name_bytes r.tokens)
record_spelled r (inl (d, (named, is, tokens, form))) =
    is.spelled ∙ record_of-keyed d ∙ ap (λ us. record_in in_bytes 0 us (slots us) (name_bytes us)) (sym tokens) ∙ ap (λ f. record_in (spelling_of f) f r.tokens (slots r.tokens) (name_bytes r.tokens)) (sym form)
record_spelled r (inr (n, (unnamed, is, tokens, told))) =
    is.spelled ∙ record_in-numbered r.form n ∙ ap (λ us. record_in (spelling_of r.form) r.form us (slots us) (name_bytes us)) (sym tokens)

record_short : (r : Record) → Spells r → length r.bytes < 2 ^ 32
record_short r (inl one) = one.1.1.short
record_short r (inr one) = one.1.1.short

-- how its columns lie in its bytes
pub record RecordHolds (r : Record) : Type 0 where
  pub short : length r.bytes < 2 ^ 32
  pub len : length r.bytes ≡ header_size + (length (tags r.tokens) + (length (fixed r.tokens) + (length (column_in (spelling_of r.form) (map length (texts r.tokens))) + (length (joined (texts r.tokens)) + (length (column_in (spelling_of r.form) (slots r.tokens)) + length (name_bytes r.tokens))))))
  pub lengths : AreBelow 32 (map length (texts r.tokens))

pub record_holds : (r : Record) → Spells r → RecordHolds r
record_holds r spells =
    let s = spelling_of r.form in
    let ts = r.tokens in
    let spelled = record_spelled r spells in
    let short = record_short r spells in
    record {
      short = short;
      len = ap length (spelled ∙ record_laid s ts (slots ts) (name_bytes ts) r.form) ∙ whole_length s r.form (parts_of ts) (slots ts) (name_bytes ts);
      lengths = small_texts r.form ts (subst (λ bs. length bs < 2 ^ 32) spelled short);
    }

-- and how long those before the slots are in any form
pub record ValuesLie (form : ℕ) (r : Record) : Type 0 where
  pub parts : length (tags r.tokens) + (length (fixed r.tokens) + length (joined (texts r.tokens))) < 2 ^ 32
  pub len : length (values (spelling_of form) (parts_of r.tokens)) ≡ length (tags r.tokens) + (length (fixed r.tokens) + (length (column_in (spelling_of form) (map length (texts r.tokens))) + length (joined (texts r.tokens))))

pub values_lie : (form : ℕ) (r : Record) → Spells r → ValuesLie form r
values_lie form r spells =
    let holds = record_holds r spells in
    record {
      parts = omega (arith, holds.len, holds.short);
      len = values_length (spelling_of form) (parts_of r.tokens);
    }

-- and those of a document in the bytes of its record
pub document_length : (d : Document) (bytes : List ℕ) → bytes ≡ record_of d
    → length bytes ≡ header_size + (length (tags (tokens_of d)) + (length (fixed (tokens_of d)) + (length (column_in in_bytes (map length (texts (tokens_of d)))) + (length (joined (texts (tokens_of d))) + (length (column_in in_bytes (map length (labels (tokens_of d)))) + length (joined (labels (tokens_of d))))))))
document_length d bytes spelled =
    let ts = tokens_of d in
    let ls = labels ts in
    ap length (spelled ∙ record_laid in_bytes ts (map length ls) (joined ls) 0) ∙ whole_length in_bytes 0 (parts_of ts) (map length ls) (joined ls)

-- how its names do
pub record NamesLie (r : Record) : Type 0 where
  pub few : length (names_in r.tokens) ≤ length r.bytes
  pub held : length (joined (names_in r.tokens)) ≤ length r.bytes
  pub members : length (names_in r.tokens) ≡ length (labels r.tokens)

pub names_lie : (r : Record) → Spells r → r.named ≡ true → NamesLie r
names_lie r spells named =
    let d = named_document r spells named in
    let ls = labels (tokens_of d.0) in
    let tokens = (document_tokens r d.0 spells d.1).1 in
    let names_are : names_in r.tokens ≡ ls = ap names_in tokens ∙ document_names d.0 in
    let labels_are : labels r.tokens ≡ map name ls = ap labels (tokens ∙ preorder-relabel name d.0 None) ∙ labels-retoken name (tokens_of d.0) in
    let len = document_length d.0 r.bytes d.1.spelled in
    record {
      few = omega (arith, ap length names_are, len, bytes_each (map length ls), length-map ls length);
      held = omega (arith, ap (λ ns. length (joined ns)) names_are, len);
      members = ap length names_are ∙ sym (ap length labels_are ∙ length-map ls name);
    }

-- ---- numbers in place of names

small_numbers : (names : List Name) → IsDictionary names → (n : Name) → name_number names n < 2 ^ 32
small_numbers names dictionary n = cases (number_of names n) refl
  where
    cases : (o : Option ℕ) → number_of names n ≡ o → unwrap_or o 0 < 2 ^ 32
    cases None none = omega arith
    cases (Some k) some = omega (arith, number_of-below names n k some, dictionary.few)

pub numbers_below : (names : List Name) → IsDictionary names → (ls : List Name) → AreBelow 32 (map (name_number names) ls)
numbers_below names dictionary [] = tt
numbers_below names dictionary (l ∷ ls) = (small_numbers names dictionary l, numbers_below names dictionary ls)

-- a document's record with numbers, where it is short enough
pub compacted_record : (form : ℕ) (names : List Name) (d : Document) (named_bytes bytes : List ℕ) → IsDictionary names → IsRecordOf d named_bytes → HasEach names (labels (tokens_of d))
    → bytes ≡ record_in (spelling_of form) form (tokens_of d) (map (name_number names) (labels (tokens_of d))) [] → length bytes < 2 ^ 32 → IsCompactedIn form names d bytes
compacted_record form names d named_bytes bytes dictionary is known spelled short = record {
  known = known;
  numbered = record {
    tree = lawful-numbered (name_number names) (small_numbers names dictionary) d is.document;
    is_object = object-numbered (name_number names) d is.is_object;
    shallow = subst (λ n. n ≤ 32) (sym (depth-numbered (name_number names) d)) is.shallow;
    spelled = spelled ∙ sym (record-numbered form (name_number names) d);
    short = short;
  };
}

-- what was written of the parts of a record and of the numbers of its names
pub compacts : (form : ℕ) (names : List Name) (d : Document) (r : Record) (ns bytes : List ℕ) → IsDictionary names → Spells r → IsRecordOf d r.bytes → HasEach names (names_in r.tokens) → ns ≡ map (name_number names) (names_in r.tokens)
    → bytes ≡ whole (spelling_of form) form (parts_of r.tokens) ns [] → length bytes < 2 ^ 32 → IsCompactedIn form names d bytes
compacts form names d r ns bytes dictionary spells is known are written short =
    let s = spelling_of form in
    let ts = tokens_of d in
    let ks = map (name_number names) (labels ts) in
    let tokens : r.tokens ≡ named_tokens d = (document_tokens r d spells is).1 in
    let names_are : names_in r.tokens ≡ labels ts = ap names_in tokens ∙ document_names d in
    let parts : parts_of r.tokens ≡ parts_of ts = ap parts_of (tokens ∙ preorder-relabel name d None) ∙ parts-retoken name ts in
    let numbers_are : ns ≡ ks = are ∙ ap (map (name_number names)) names_are in
    compacted_record form names d r.bytes bytes dictionary is (subst (HasEach names) names_are known)
    (written ∙ ap (λ p. whole s form p ns []) parts ∙ ap (λ k. whole s form (parts_of ts) k []) numbers_are ∙ sym (record_laid s ts ks [] form)) short

-- it is short enough, whatever the form
pub compacted_short : (form : ℕ) (r : Record) (ns : List ℕ) → Spells r → r.named ≡ true → length r.bytes < 2 ^ 30 → length ns ≡ length (names_in r.tokens) → AreBelow 32 ns → length (whole (spelling_of form) form (parts_of r.tokens) ns []) < 2 ^ 32
compacted_short form r ns spells named short many each =
    let s = spelling_of form in
    let d = named_document r spells named in
    let ts = tokens_of d.0 in
    let ls = labels ts in
    let tokens : r.tokens ≡ named_tokens d.0 = (document_tokens r d.0 spells d.1).1 in
    let names_are : length (names_in r.tokens) ≡ length ls = ap length (ap names_in tokens ∙ document_names d.0) in
    let lengths = map length (texts r.tokens) in
    let parts : parts_of r.tokens ≡ parts_of ts = ap parts_of (tokens ∙ preorder-relabel name d.0 None) ∙ parts-retoken name ts in
    let texts_most = column_in-most s (form_spells form) lengths (record_holds r spells).lengths in
    let slots_most = column_in-most s (form_spells form) ns each in
    let p = parts_of r.tokens in
    omega (
      arith,
      short,
      many,
      names_are,
      texts_most,
      slots_most,
      whole_length s form p ns [],
      document_length d.0 r.bytes d.1.spelled,
      bytes_each (map length (texts ts)),
      bytes_each (map length ls),
      length-map ls length,
      ap (λ (q : Parts). length q.tags) parts,
      ap (λ (q : Parts). length q.fixed) parts,
      ap (λ (q : Parts). length q.lengths) parts,
      ap (λ (q : Parts). length q.texts) parts,
    )
