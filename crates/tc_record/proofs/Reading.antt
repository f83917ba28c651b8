-- The laws of whole records: each is read as the tokens that it spells, and nothing else is read.
use Rattle.std.proofs.Common.{◌≡◌, ◌∙◌, ◌<◌, ◌≤◌, ◌+◌, ◌^◌, ◌==◌, ℕ, Bool, true, false, List, [], ◌∷◌, ◌++◌, None, Some, option_to_list, length, map, inl, inr, refl, sym, ap, subst, arith, length-append}
use Rattle.std.proofs.lemmas.Bool.Decides.{nat_tests}
use Rattle.std.proofs.lemmas.List.Concat.{flat_map-append}
use Rattle.std.proofs.lemmas.Option.{same_Some}
use Rattle.tc_bits.proofs.Joined.{AreBelow}
use Rattle.tc_bytes.specs.Codec.{IsBytes}
use Rattle.tc_bytes.proofs.Codecs.{then_parts}
use Rattle.tc_model.specs.Tree.{leaf, array, object, Items, no_items, item, Members, no_members, member, depth, members_relabel}
use Rattle.tc_model.specs.Document.{Document, Scalar}
use Rattle.tc_record.specs.Preorder.{Token, token, closed, preorder, items_preorder, members_preorder, tokens_of}
use Rattle.tc_record.specs.Record.{NumberedTree, fixed, texts, labels, joined, IsNumberedForm, width_in, column_in, spelling_of, body_in, record_in, record_bytes, record_of, numbered_record_in, IsRecordOf, IsNumberedRecordIn, IsNumberedTree, AreNumberedItems, AreNumberedMembers}
use Rattle.tc_record.specs.Walk.{Key, name, number, Format, Columns, tokens_read}
use Rattle.tc_record.specs.Sections.{Header, form_from, Sections, sections_in, record_read}
use Rattle.tc_record.specs.Borrowed.{named_tokens, numbered_tokens, Spells}
use Rattle.tc_record.proofs.Walks.{AreKeyedMembers}
use Rattle.tc_record.proofs.Found.{TokensFound, tokens_found, tokens_again}
use Rattle.tc_record.proofs.Spelled.{slots, names, spelled_fixed, spelled_lengths, spelled_texts, spelled_slots, spelled_names}
use Rattle.tc_record.proofs.Keyed.{keyed, numbered, depth-relabel, slots_of-keyed, slots_of-numbered, names_of-keyed, record_of-keyed, record_in-numbered}
use Rattle.tc_record.proofs.Fitting.{keyed_document, keyed_numbered}
use Rattle.tc_record.proofs.Documents.{members_found, numbered_members_found}
use Rattle.tc_record.proofs.Cutting.{header_of_tokens, body_length, body_in-length, spelled_header, TokensFit, sections_again, SectionsFound, sections_found}

-- ---- the numbers of columns have 32 bits

pub lengths_small : (xs : List (List ℕ)) → length (joined xs) < 2 ^ 32 → AreBelow 32 (map length xs)
lengths_small [] short = tt
lengths_small (x ∷ xs) short = let sum = length-append x (joined xs) in (omega arith, lengths_small xs (omega arith))

below_append : (ns ms : List ℕ) → AreBelow 32 ns → AreBelow 32 ms → AreBelow 32 (ns ++ ms)
below_append [] ms each more = more
below_append (n ∷ ns) ms each more = (each.0, below_append ns ms each.1 more)

labels-append : (ts us : List (Token ℕ Scalar)) → labels (ts ++ us) ≡ labels ts ++ labels us
labels-append ts us = flat_map-append (λ (t : Token ℕ Scalar). option_to_list t.label) ts us

both : (ts us : List (Token ℕ Scalar)) → AreBelow 32 (labels ts) → AreBelow 32 (labels us) → AreBelow 32 (labels (ts ++ us))
both ts us each more = subst (AreBelow 32) (sym (labels-append ts us)) (below_append (labels ts) (labels us) each more)

mutual
  pub numbers_small : (t : NumberedTree) → IsNumberedTree t → AreBelow 32 (labels (preorder None t))
  numbers_small (leaf s) is = tt
  numbers_small (array xs) is = both (items_preorder xs) (token None closed ∷ []) (items_small xs is) tt
  numbers_small (object ms) is = both (members_preorder ms) (token None closed ∷ []) (members_small ms is) tt

  items_small : (xs : Items ℕ Scalar) → AreNumberedItems xs → AreBelow 32 (labels (items_preorder xs))
  items_small no_items is = tt
  items_small (item t ts) is = both (preorder None t) (items_preorder ts) (numbers_small t is.0) (items_small ts is.1)

  members_small : (ms : Members ℕ Scalar) → AreNumberedMembers ms → AreBelow 32 (labels (members_preorder ms))
  members_small no_members is = tt
  members_small (member k t ms) is = both (preorder (Some k) t) (members_preorder ms) (labelled_small k t is.0 (numbers_small t is.1)) (members_small ms is.2)

  labelled_small : (k : ℕ) (t : NumberedTree) → k < 2 ^ 32 → AreBelow 32 (labels (preorder None t)) → AreBelow 32 (labels (preorder (Some k) t))
  labelled_small k (leaf s) small rest = (small, rest)
  labelled_small k (array xs) small rest = (small, rest)
  labelled_small k (object ms) small rest = (small, rest)

-- ---- each record is read

read_again : (b : Bool) (form : ℕ) (ms : Members Key Scalar) (bytes : List ℕ) → form_from form ≡ Some b
    → bytes ≡ record_in (spelling_of form) form (tokens_of (object ms)) (slots (tokens_of (object ms))) (names (tokens_of (object ms))) → length bytes < 2 ^ 32
    → TokensFit (tokens_of (object ms)) → AreKeyedMembers (record { form = form; named = b }) None ms → depth (object ms) ≤ 32
    → record_read bytes ≡ Some (record { form = form; named = b }, tokens_of (object ms))
read_again b form ms bytes is spelled short fits keyed shallow =
    let ts = tokens_of (object ms) in
    let cut = sections_again b form ts is fits (subst (λ bs. length bs < 2 ^ 32) spelled short) in
    rw (spelled, cut, tokens_again ms (record { form = form; named = b }) keyed shallow) refl

-- what a record that is short enough holds
pub small_texts : (form : ℕ) (ts : List (Token Key Scalar)) → length (record_in (spelling_of form) form ts (slots ts) (names ts)) < 2 ^ 32 → AreBelow 32 (map length (texts ts))
small_texts form ts short = lengths_small (texts ts) (omega (arith, body_in-length (spelling_of form) ts))

small_names : (d : Document) → length (record_bytes 0 (tokens_of (keyed d)) (slots (tokens_of (keyed d))) (names (tokens_of (keyed d)))) < 2 ^ 32 → AreBelow 32 (slots (tokens_of (keyed d)))
small_names d short =
    let ts = tokens_of (keyed d) in
    let few : length (names ts) < 2 ^ 32 = omega (arith, body_length ts) in
    let all : length (joined (labels (tokens_of d))) < 2 ^ 32 = subst (λ bs. length bs < 2 ^ 32) (names_of-keyed d) few in
    subst (AreBelow 32) (sym (slots_of-keyed d)) (lengths_small (labels (tokens_of d)) all)

pub document_again : (d : Document) (bytes : List ℕ) → IsRecordOf d bytes → record_read bytes ≡ Some (record { form = 0; named = true }, named_tokens d)
document_again (leaf s) bytes is = absurd is.is_object
document_again (array xs) bytes is = absurd is.is_object
document_again (object ms) bytes is =
    let ts = tokens_of (keyed (object ms)) in
    let spelled : bytes ≡ record_bytes 0 ts (slots ts) (names ts) = is.spelled ∙ record_of-keyed (object ms) in
    let short : length (record_bytes 0 ts (slots ts) (names ts)) < 2 ^ 32 = subst (λ bs. length bs < 2 ^ 32) spelled is.short in
    let fits : TokensFit ts = record { lengths = small_texts 0 ts short; slots = small_names (object ms) short } in
    read_again true 0 (members_relabel name (λ s. s) ms) bytes refl spelled is.short fits (keyed_document (object ms) (record { form = 0; named = true }) refl is.document) (subst (λ n. n ≤ 32) (sym (depth-relabel name (object ms))) is.shallow)

numbered_told : (form : ℕ) → IsNumberedForm form → form_from form ≡ Some false
numbered_told form (inl is) = rw is refl
numbered_told form (inr is) = rw is refl

pub numbered_again : (form : ℕ) → IsNumberedForm form → (n : NumberedTree) (bytes : List ℕ) → IsNumberedRecordIn form n bytes → record_read bytes ≡ Some (record { form = form; named = false }, numbered_tokens n)
numbered_again form told (leaf s) bytes is = absurd is.is_object
numbered_again form told (array xs) bytes is = absurd is.is_object
numbered_again form told (object ms) bytes is =
    let ts = tokens_of (numbered (object ms)) in
    let spelled : bytes ≡ record_in (spelling_of form) form ts (slots ts) (names ts) = is.spelled ∙ record_in-numbered form (object ms) in
    let short : length (record_in (spelling_of form) form ts (slots ts) (names ts)) < 2 ^ 32 = subst (λ bs. length bs < 2 ^ 32) spelled is.short in
    let fits : TokensFit ts = record { lengths = small_texts form ts short; slots = subst (AreBelow 32) (sym (slots_of-numbered (object ms))) (numbers_small (object ms) is.tree) } in
    read_again false form (members_relabel number (λ s. s) ms) bytes (numbered_told form told) spelled is.short fits (keyed_numbered (object ms) (record { form = form; named = false }) refl is.tree) (subst (λ n. n ≤ 32) (sym (depth-relabel number (object ms))) is.shallow)

-- ---- and nothing else is read

same_header : (h : Header) (a b c d e f g i : ℕ) → h.total ≡ a → h.form ≡ b → h.tags ≡ c → h.fixed ≡ d → h.texts ≡ e → h.text_width ≡ f → h.names ≡ g → h.slot_width ≡ i
    → h ≡ record { total = a; form = b; tags = c; fixed = d; texts = e; text_width = f; names = g; slot_width = i }
same_header h a b c d e f g i p q r s t u v w = rw (← p, ← q, ← r, ← s, ← t, ← u, ← v, ← w) refl

named_found : (n : ℕ) → form_from n ≡ Some true → n ≡ 0
named_found n gives = grind (arith, nat_tests)

numbered_found : (n : ℕ) → form_from n ≡ Some false → IsNumberedForm n
numbered_found n gives = by_test (n == 1) refl
  where
    one : (n : ℕ) → (n == 1) ≡ true → n ≡ 1
    one n e = grind (arith, nat_tests)

    two : (n : ℕ) → form_from n ≡ Some false → (n == 1) ≡ false → n ≡ 2
    two n gives e = grind (arith, nat_tests)

    by_test : (b : Bool) → (n == 1) ≡ b → IsNumberedForm n
    by_test true e = inl (one n e)
    by_test false e = inr (two n gives e)

-- the bytes are the record of the tokens
whole_found : (bytes : List ℕ) (s : Sections) (ts : List (Token Key Scalar)) → SectionsFound bytes s → TokensFound s.format s.tags s.columns ts
    → bytes ≡ record_in (spelling_of s.format.form) s.format.form ts (slots ts) (names ts)
whole_found bytes s ts cut read =
    let c = cut.columns in
    let form = cut.header.form in
    let sp = spelling_of form in
    let fixed_is : s.columns.fixed ≡ fixed ts = ap (λ (x : Columns). x.fixed) read.spelled ∙ spelled_fixed ts in
    let lengths : s.columns.lengths ≡ map length (texts ts) = ap (λ (x : Columns). x.lengths) read.spelled ∙ spelled_lengths ts in
    let texts_is : s.columns.texts ≡ joined (texts ts) = ap (λ (x : Columns). x.texts) read.spelled ∙ spelled_texts ts in
    let slot_list : s.columns.slots ≡ slots ts = ap (λ (x : Columns). x.slots) read.spelled ∙ spelled_slots ts in
    let names_is : s.columns.names ≡ names ts = ap (λ (x : Columns). x.names) read.spelled ∙ spelled_names ts in
    let content = body_in sp ts (slots ts) (names ts) in
    let rest_is : cut.rest ≡ content =
    c.spelled ∙ six_parts s.tags s.columns.fixed (column_in sp s.columns.lengths) s.columns.texts (column_in sp s.columns.slots) s.columns.names _ _ _ _ _ _ read.tagged fixed_is (ap (column_in sp) lengths) texts_is (ap (column_in sp) slot_list) names_is in
    let len : length bytes ≡ length (spelled_header cut.header cut.rest) = ap length cut.spelled in
    let rest_len : length cut.rest ≡ length content = ap length rest_is in
    let told = cut.total in
    let total : cut.header.total ≡ 23 + length content = omega arith in
    let header_is : cut.header ≡ header_of_tokens form ts =
    same_header cut.header _ _ _ _ _ _ _ _ total refl (c.tag_count ∙ ap length read.tagged) (c.fixed_count ∙ ap length fixed_is) (c.text_count ∙ ap length lengths) (c.text_width ∙ ap (width_in sp) lengths) (c.slot_count ∙ ap length slot_list) (c.slot_width ∙ ap (width_in sp) slot_list) in
    cut.spelled ∙ ap (λ h. spelled_header h cut.rest) header_is ∙ ap (spelled_header (header_of_tokens form ts)) rest_is ∙ ap (λ f. record_in (spelling_of f) f ts (slots ts) (names ts)) (sym c.form_is)
  where
    six_parts : (a b c d e f n o p q r s : List ℕ) → a ≡ n → b ≡ o → c ≡ p → d ≡ q → e ≡ r → f ≡ s → a ++ (b ++ (c ++ (d ++ (e ++ f)))) ≡ n ++ (o ++ (p ++ (q ++ (r ++ s))))
    six_parts a b c d e f n o p q r s p1 p2 p3 p4 p5 p6 = rw (p1, p2, p3, p4, p5, p6) refl

spells_by : (bytes : List ℕ) (s : Sections) (ts : List (Token Key Scalar)) (b : Bool) → s.format.named ≡ b → SectionsFound bytes s → TokensFound s.format s.tags s.columns ts → Spells (record { bytes = bytes; form = s.format.form; named = b; tokens = ts })
spells_by bytes s ts true is cut read =
    let held = members_found read.members s.format None is read.keyed in
    let d = object held.members in
    let form : s.format.form ≡ 0 = cut.columns.form_is ∙ named_found cut.header.form (cut.form ∙ ap Some is) in
    let tokens : ts ≡ named_tokens d = read.tokens ∙ ap (λ ms. preorder None (object ms)) held.same in
    let spelled : bytes ≡ record_of d = whole_found bytes s ts cut read ∙ ap (λ f. record_in (spelling_of f) f ts (slots ts) (names ts)) form ∙ ap (λ us. record_bytes 0 us (slots us) (names us)) tokens ∙ sym (record_of-keyed d) in
    let deep : depth (object read.members) ≡ depth d = ap (λ ms. depth (object ms)) held.same ∙ depth-relabel name d in
    let few = cut.fits.total in
    let told = cut.total in
    let shallow = read.shallow in
    inl (d, (refl, record { document = (held.follows, held.lawful); is_object = tt; shallow = omega arith; spelled = spelled; short = omega arith }, tokens, form))
spells_by bytes s ts false is cut read =
    let held = numbered_members_found read.members s.format None is read.keyed in
    let n = object held.members in
    let form : IsNumberedForm s.format.form = subst IsNumberedForm (sym cut.columns.form_is) (numbered_found cut.header.form (cut.form ∙ ap Some is)) in
    let tokens : ts ≡ numbered_tokens n = read.tokens ∙ ap (λ ms. preorder None (object ms)) held.same in
    let spelled : bytes ≡ numbered_record_in s.format.form n = whole_found bytes s ts cut read ∙ ap (λ us. record_in (spelling_of s.format.form) s.format.form us (slots us) (names us)) tokens ∙ sym (record_in-numbered s.format.form n) in
    let deep : depth (object read.members) ≡ depth n = ap (λ ms. depth (object ms)) held.same ∙ depth-relabel number n in
    let few = cut.fits.total in
    let told = cut.total in
    let shallow = read.shallow in
    inr (n, (refl, record { tree = held.lawful; is_object = tt; shallow = omega arith; spelled = spelled; short = omega arith }, tokens, form))

pub read_found : (bytes : List ℕ) (q : Format × List (Token Key Scalar)) → IsBytes bytes → record_read bytes ≡ Some q → Spells (record { bytes = bytes; form = q.0.form; named = q.0.named; tokens = q.1 })
read_found bytes q each gives =
    let one = then_parts (sections_in bytes) _ q gives in
    let s = one.0 in
    let cut = sections_found bytes s each one.1 in
    let two = then_parts (tokens_read s.format s.tags s.columns) _ q one.2 in
    let read = tokens_found s.tags s.format s.columns two.0 cut.columns.each two.1 in
    subst (λ (p : Format × List (Token Key Scalar)). Spells (record { bytes = bytes; form = p.0.form; named = p.0.named; tokens = p.1 })) (same_Some _ q two.2) (spells_by bytes s two.0 s.format.named refl cut read)
