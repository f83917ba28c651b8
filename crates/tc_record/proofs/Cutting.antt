-- The laws of the header and of the columns behind it.
use Rattle.std.proofs.Common.{◌≡◌, ◌∙◌, ◌<◌, ◌≤◌, ◌+◌, ◌^◌, ◌==◌, ℕ, Bool, true, false, if◌then◌else◌, List, [], ◌∷◌, ◌++◌, Option, None, Some, option_to_list, length, map, refl, sym, ap, subst, arith, length-append}
use Rattle.std.proofs.lemmas.Bool.{eqb-true}
use Rattle.std.proofs.lemmas.List.{length-map}
use Rattle.std.specs.Int.{w32, to_be_bytes}
use Rattle.std.proofs.lemmas.Option.{same_Some}
use Rattle.tc_bits.proofs.Joined.{AreBelow}
use Rattle.tc_bytes.specs.Reading.{byte_at, number_at, bytes_at}
use Rattle.tc_bytes.specs.Codec.{IsBytes}
use Rattle.tc_bytes.proofs.Fields.{number_codec_32, byte_codec, bytes_codec, IsBytes-front, bytes_again}
use Rattle.tc_bytes.proofs.Codecs.{then_parts}
use Rattle.tc_model.specs.Document.{Scalar, null, boolean, integer, text}
use Rattle.tc_record.specs.Preorder.{Piece, scalar, array_opened, object_opened, closed, Token}
use Rattle.tc_record.specs.Record.{piece_tag, piece_text, tags, fixed, texts, labels, width, numbers, joined, Spelling, width_in, column_in, in_bytes, spelling_of, header_size, body_in, record_in, body}
use Rattle.tc_record.specs.Walk.{Key}
use Rattle.tc_record.specs.Sections.{Header, header_at, form_from, capped_sum, numbers_at, Sections, columns_behind, sections_in}
use Rattle.tc_record.proofs.ColumnLaws.{columns_by, no_columns, same_columns}
use Rattle.tc_record.proofs.Texts.{AreColumns}
use Rattle.tc_record.proofs.Walks.{with_tokens}
use Rattle.tc_record.proofs.Spelled.{slot_of, slots, names, spelled_fixed, spelled_lengths, spelled_texts, spelled_slots, spelled_names}
use Rattle.tc_record.proofs.Spellings.{form_spells}
use Rattle.tc_record.proofs.NumberColumns.{numbers_again, numbers_found, sum_of_lengths, same_test}

-- ---- the header

abbrev pub spelled_header : Header → List ℕ → List ℕ
spelled_header h rest =
    to_be_bytes w32 h.total ++ (h.form ∷ (to_be_bytes w32 h.tags ++ (to_be_bytes w32 h.fixed ++ (to_be_bytes w32 h.texts ++ (h.text_width ∷ (to_be_bytes w32 h.names ++ (h.slot_width ∷ rest)))))))

pub record HeaderFits (h : Header) : Type 0 where
  pub total : h.total < 2 ^ 32
  pub tags : h.tags < 2 ^ 32
  pub fixed : h.fixed < 2 ^ 32
  pub texts : h.texts < 2 ^ 32
  pub names : h.names < 2 ^ 32

pub header_again : (h : Header) (rest : List ℕ) → HeaderFits h → header_at (spelled_header h rest) ≡ Some (h, rest)
header_again h rest fits =
    let r6 = h.slot_width ∷ rest in
    let r5 = h.text_width ∷ (to_be_bytes w32 h.names ++ r6) in
    let r4 = to_be_bytes w32 h.texts ++ r5 in
    let r3 = to_be_bytes w32 h.fixed ++ r4 in
    let r2 = h.form ∷ (to_be_bytes w32 h.tags ++ r3) in
    rw (number_codec_32.again h.total r2 fits.total, number_codec_32.again h.tags r3 fits.tags, number_codec_32.again h.fixed r4 fits.fixed, number_codec_32.again h.texts r5 fits.texts, number_codec_32.again h.names r6 fits.names) refl

pub record HeaderFound (bytes : List ℕ) (q : Header × List ℕ) : Type 0 where
  pub spelled : bytes ≡ spelled_header q.0 q.1
  pub rest : IsBytes q.1
  pub fits : HeaderFits q.0

pub header_found : (bytes : List ℕ) (q : Header × List ℕ) → IsBytes bytes → header_at bytes ≡ Some q → HeaderFound bytes q
header_found bytes q each gives =
    let total = then_parts (number_at w32 bytes) _ q gives in
    let form = then_parts (byte_at total.0.1) _ q total.2 in
    let tag = then_parts (number_at w32 form.0.1) _ q form.2 in
    let fix = then_parts (number_at w32 tag.0.1) _ q tag.2 in
    let txt = then_parts (number_at w32 fix.0.1) _ q fix.2 in
    let tw = then_parts (byte_at txt.0.1) _ q txt.2 in
    let nam = then_parts (number_at w32 tw.0.1) _ q tw.2 in
    let sw = then_parts (byte_at nam.0.1) _ q nam.2 in
    let a = number_codec_32.found bytes total.0.0 total.0.1 each total.1 in
    let b = byte_codec.found total.0.1 form.0.0 form.0.1 a.1 form.1 in
    let c = number_codec_32.found form.0.1 tag.0.0 tag.0.1 b.1 tag.1 in
    let d = number_codec_32.found tag.0.1 fix.0.0 fix.0.1 c.1 fix.1 in
    let e = number_codec_32.found fix.0.1 txt.0.0 txt.0.1 d.1 txt.1 in
    let f = byte_codec.found txt.0.1 tw.0.0 tw.0.1 e.1 tw.1 in
    let g = number_codec_32.found tw.0.1 nam.0.0 nam.0.1 f.1 nam.1 in
    let h = byte_codec.found nam.0.1 sw.0.0 sw.0.1 g.1 sw.1 in
    let at_names : tw.0.1 ≡ to_be_bytes w32 nam.0.0 ++ (sw.0.0 ∷ sw.0.1) = g.0 ∙ ap (λ r. to_be_bytes w32 nam.0.0 ++ r) h.0 in
    let at_texts : fix.0.1 ≡ to_be_bytes w32 txt.0.0 ++ (tw.0.0 ∷ (to_be_bytes w32 nam.0.0 ++ (sw.0.0 ∷ sw.0.1))) = e.0 ∙ ap (λ r. to_be_bytes w32 txt.0.0 ++ r) (f.0 ∙ ap (λ r. tw.0.0 ∷ r) at_names) in
    let at_tags : form.0.1 ≡ to_be_bytes w32 tag.0.0 ++ (to_be_bytes w32 fix.0.0 ++ (to_be_bytes w32 txt.0.0 ++ (tw.0.0 ∷ (to_be_bytes w32 nam.0.0 ++ (sw.0.0 ∷ sw.0.1))))) = c.0 ∙ ap (λ r. to_be_bytes w32 tag.0.0 ++ r) (d.0 ∙ ap (λ r. to_be_bytes w32 fix.0.0 ++ r) at_texts) in
    subst (HeaderFound bytes) (same_Some _ q sw.2)
    (record {
      spelled = a.0 ∙ ap (λ r. to_be_bytes w32 total.0.0 ++ r) (b.0 ∙ ap (λ r. form.0.0 ∷ r) at_tags);
      rest = h.1;
      fits = record { total = a.2; tags = c.2; fixed = d.2; texts = e.2; names = g.2 };
    })

-- ---- the columns

pub record ColumnsFound (h : Header) (named : Bool) (bytes : List ℕ) (s : Sections) : Type 0 where
  pub form_is : s.format.form ≡ h.form
  pub named_is : s.format.named ≡ named
  pub tag_count : h.tags ≡ length s.tags
  pub fixed_count : h.fixed ≡ length s.columns.fixed
  pub text_count : h.texts ≡ length s.columns.lengths
  pub slot_count : h.names ≡ length s.columns.slots
  pub text_width : h.text_width ≡ width_in (spelling_of h.form) s.columns.lengths
  pub slot_width : h.slot_width ≡ width_in (spelling_of h.form) s.columns.slots
  pub spelled : bytes ≡ s.tags ++ (s.columns.fixed ++ (column_in (spelling_of h.form) s.columns.lengths ++ (s.columns.texts ++ (column_in (spelling_of h.form) s.columns.slots ++ s.columns.names))))
  pub each : AreColumns s.columns

columns_found : (h : Header) (named : Bool) (bytes : List ℕ) (s : Sections) → IsBytes bytes → columns_behind h named bytes ≡ Some s → ColumnsFound h named bytes s
columns_found h named bytes s each gives =
    let tag = then_parts (bytes_at h.tags bytes) _ s gives in
    let fix = then_parts (bytes_at h.fixed tag.0.1) _ s tag.2 in
    let len = then_parts (numbers_at (spelling_of h.form) h.text_width h.texts fix.0.1) _ s fix.2 in
    let txt = then_parts (bytes_at (capped_sum len.0.0) len.0.1) _ s len.2 in
    let slot = then_parts (numbers_at (spelling_of h.form) h.slot_width h.names txt.0.1) _ s txt.2 in
    let a = (bytes_codec h.tags).found bytes tag.0.0 tag.0.1 each tag.1 in
    let b = (bytes_codec h.fixed).found tag.0.1 fix.0.0 fix.0.1 a.1 fix.1 in
    let c = numbers_found (spelling_of h.form) (form_spells h.form) h.text_width h.texts fix.0.1 len.0 b.1 len.1 in
    let d = (bytes_codec (capped_sum len.0.0)).found len.0.1 txt.0.0 txt.0.1 c.rest txt.1 in
    let e = numbers_found (spelling_of h.form) (form_spells h.form) h.slot_width h.names txt.0.1 slot.0 d.1 slot.1 in
    let lengths_spelled : fix.0.1 ≡ column_in (spelling_of h.form) len.0.0 ++ len.0.1 = c.spelled ∙ ap (λ w. (spelling_of h.form).column w len.0.0 ++ len.0.1) c.least in
    let slots_spelled : txt.0.1 ≡ column_in (spelling_of h.form) slot.0.0 ++ slot.0.1 = e.spelled ∙ ap (λ w. (spelling_of h.form).column w slot.0.0 ++ slot.0.1) e.least in
    subst (ColumnsFound h named bytes) (same_Some _ s slot.2)
    (record {
      form_is = refl;
      named_is = refl;
      tag_count = sym a.2;
      fixed_count = sym b.2;
      text_count = c.many;
      slot_count = e.many;
      text_width = c.least;
      slot_width = e.least;
      spelled = a.0 ∙ ap (λ r. tag.0.0 ++ r) (b.0 ∙ ap (λ r. fix.0.0 ++ r) (lengths_spelled ∙ ap (λ r. column_in (spelling_of h.form) len.0.0 ++ r) (d.0 ∙ ap (λ r. txt.0.0 ++ r) slots_spelled)));
      each = record { fixed = IsBytes-front fix.0.0 fix.0.1 (subst IsBytes b.0 a.1); texts = IsBytes-front txt.0.0 txt.0.1 (subst IsBytes d.0 c.rest); slots = e.each; names = e.rest };
    })

-- ---- the whole

pub record SectionsFound (bytes : List ℕ) (s : Sections) : Type 0 where
  pub header : Header
  pub rest : List ℕ
  pub spelled : bytes ≡ spelled_header header rest
  pub total : header.total ≡ length bytes
  pub form : form_from header.form ≡ Some s.format.named
  pub fits : HeaderFits header
  pub columns : ColumnsFound header s.format.named rest s

pub sections_found : (bytes : List ℕ) (s : Sections) → IsBytes bytes → sections_in bytes ≡ Some s → SectionsFound bytes s
sections_found bytes s each gives =
    let one = then_parts (header_at bytes) _ s gives in
    let header = header_found bytes one.0 each one.1 in
    let h = one.0.0 in
    let passes = unless_none (h.total == length bytes) _ s one.2 in
    let two = then_parts (form_from h.form) _ s passes.0 in
    let columns = columns_found h two.0 one.0.1 s header.rest two.2 in
    record {
      header = h;
      rest = one.0.1;
      spelled = header.spelled;
      total = eqb-true h.total (length bytes) passes.1;
      form = two.1 ∙ ap Some (sym columns.named_is);
      fits = header.fits;
      columns = subst (λ b. ColumnsFound h b one.0.1 s) (sym columns.named_is) columns;
    }
  where
    unless_none : {A : Type 0} (b : Bool) (x : Option A) (q : A) → (if b then x else None) ≡ Some q → (x ≡ Some q) × (b ≡ true)
    unless_none true x q gives = (gives, refl)
    unless_none false x q gives = cc

-- ---- what is spelled is cut

-- the header of tokens
abbrev pub header_of_tokens : ℕ → List (Token Key Scalar) → Header
header_of_tokens form ts = record {
  total = header_size + length (body_in (spelling_of form) ts (slots ts) (names ts));
  form = form;
  tags = length (tags ts);
  fixed = length (fixed ts);
  texts = length (map length (texts ts));
  text_width = width_in (spelling_of form) (map length (texts ts));
  names = length (slots ts);
  slot_width = width_in (spelling_of form) (slots ts);
}

-- the lengths of the columns, added up
pub body_in-length : (sp : Spelling) (ts : List (Token Key Scalar)) → length (body_in sp ts (slots ts) (names ts))
    ≡ length (tags ts) + (length (fixed ts) + (length (column_in sp (map length (texts ts))) + (length (joined (texts ts)) + (length (column_in sp (slots ts)) + length (names ts)))))
body_in-length sp ts =
    let lengths = map length (texts ts) in
    let last = column_in sp (slots ts) ++ names ts in
    let text_part = joined (texts ts) ++ last in
    let text_columns = column_in sp lengths ++ text_part in
    omega (arith, length-append (tags ts) (fixed ts ++ text_columns), length-append (fixed ts) text_columns, length-append (column_in sp lengths) text_part, length-append (joined (texts ts)) last, length-append (column_in sp (slots ts)) (names ts))

pub body_length : (ts : List (Token Key Scalar)) → length (body ts (slots ts) (names ts))
    ≡ length (tags ts) + (length (fixed ts) + (length (numbers (width (map length (texts ts))) (map length (texts ts))) + (length (joined (texts ts)) + (length (numbers (width (slots ts)) (slots ts)) + length (names ts)))))
body_length ts = body_in-length in_bytes ts

-- no more texts and labels than tokens
texts_within : (ts : List (Token Key Scalar)) → length (texts ts) ≤ length ts
texts_within [] = omega arith
texts_within (t ∷ ts) = let one = one_text t.piece in omega (arith, one, length-append (piece_text t.piece) (texts ts), texts_within ts)
  where
    one_text : (p : Piece Scalar) → length (piece_text p) ≤ 1
    one_text (scalar null) = omega arith
    one_text (scalar (boolean b)) = omega arith
    one_text (scalar (integer z)) = omega arith
    one_text (scalar (text s)) = omega arith
    one_text array_opened = omega arith
    one_text object_opened = omega arith
    one_text closed = omega arith

pub labels_within : (ts : List (Token Key Scalar)) → length (labels ts) ≤ length ts
labels_within [] = omega arith
labels_within (t ∷ ts) = let one = one_label t.label in omega (arith, one, length-append (option_to_list t.label) (labels ts), labels_within ts)
  where
    one_label : (l : Option Key) → length (option_to_list l) ≤ 1
    one_label None = omega arith
    one_label (Some k) = omega arith

pub header_fits : (form : ℕ) (ts : List (Token Key Scalar)) → header_size + length (body_in (spelling_of form) ts (slots ts) (names ts)) < 2 ^ 32 → HeaderFits (header_of_tokens form ts)
header_fits form ts short =
    let sum = body_in-length (spelling_of form) ts in
    let many = length-map ts (λ (t : Token Key Scalar). piece_tag t.piece) in
    record {
      total = short;
      tags = omega arith;
      fixed = omega arith;
      texts = omega (arith, length-map (texts ts) length, texts_within ts);
      names = omega (arith, length-map (labels ts) slot_of, labels_within ts);
    }

-- the numbers of the columns of tokens have 32 bits
pub record TokensFit (ts : List (Token Key Scalar)) : Type 0 where
  pub lengths : AreBelow 32 (map length (texts ts))
  pub slots : AreBelow 32 (slots ts)

columns_again : (named : Bool) (form : ℕ) (ts : List (Token Key Scalar)) → TokensFit ts → header_size + length (body_in (spelling_of form) ts (slots ts) (names ts)) < 2 ^ 32
    → columns_behind (header_of_tokens form ts) named (body_in (spelling_of form) ts (slots ts) (names ts)) ≡ Some (record { format = record { form = form; named = named }; tags = tags ts; columns = with_tokens ts no_columns })
columns_again named form ts fits short =
    let sp = spelling_of form in
    let lengths = map length (texts ts) in
    let r4 = column_in sp (slots ts) ++ names ts in
    let r3 = joined (texts ts) ++ r4 in
    let r2 = column_in sp lengths ++ r3 in
    let r1 = fixed ts ++ r2 in
    let sum = body_in-length sp ts in
    let total : length (joined (texts ts)) ≡ capped_sum lengths = sym (sum_of_lengths (texts ts) (omega arith)) in
    let read_lengths : numbers_at sp (width_in sp lengths) (length lengths) r2 ≡ Some (lengths, r3) = numbers_again sp (form_spells form) lengths r3 fits.lengths in
    let read_slots : numbers_at sp (width_in sp (slots ts)) (length (slots ts)) r4 ≡ Some (slots ts, names ts) = numbers_again sp (form_spells form) (slots ts) (names ts) fits.slots in
    let columns : with_tokens ts no_columns ≡ columns_by (fixed ts) lengths (joined (texts ts)) (slots ts) (names ts) =
    same_columns (with_tokens ts no_columns) _ _ _ _ _ (spelled_fixed ts) (spelled_lengths ts) (spelled_texts ts) (spelled_slots ts) (spelled_names ts) in
    rw (columns, bytes_again (length (tags ts)) (tags ts) r1 refl, bytes_again (length (fixed ts)) (fixed ts) r2 refl, read_lengths, bytes_again (capped_sum lengths) (joined (texts ts)) r4 total, read_slots) refl

-- the columns that tokens have are cut out of their record
pub sections_again : (named : Bool) (form : ℕ) (ts : List (Token Key Scalar)) → form_from form ≡ Some named → TokensFit ts
    → length (record_in (spelling_of form) form ts (slots ts) (names ts)) < 2 ^ 32
    → sections_in (record_in (spelling_of form) form ts (slots ts) (names ts)) ≡ Some (record { format = record { form = form; named = named }; tags = tags ts; columns = with_tokens ts no_columns })
sections_again named form ts is fits short =
    let content = body_in (spelling_of form) ts (slots ts) (names ts) in
    let whole_record = record_in (spelling_of form) form ts (slots ts) (names ts) in
    let small : header_size + length content < 2 ^ 32 = omega arith in
    let whole : header_size + length content ≡ length whole_record = omega arith in
    rw (header_again (header_of_tokens form ts) content (header_fits form ts small), is, columns_again named form ts fits small)
    (same_test (header_size + length content) (length whole_record) _ None whole)
