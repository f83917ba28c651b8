-- The records of the entries of a content.
use Rattle.std.proofs.Common.{◌≡◌, ◌<◌, ◌≤◌, ◌^◌, ℕ, true, List, [], ◌∷◌, ◌++◌, None, Some, length, map, refl, sym, ap, subst, arith, inl, inr, length-append, Option}
use Rattle.std.specs.Prelude.{All, option_map, option_to_list}
use Rattle.std.specs.List.{AllByRecursion}
use Rattle.std.proofs.lemmas.List.{length-map}
use Rattle.std.proofs.lemmas.List.Elements.{All-head, All-tail}
use Rattle.tc_model.specs.Dictionary.{IsDictionary, number as name_number}
use Rattle.tc_model.specs.Document.{Name, Document, Scalar}
use Rattle.tc_model.specs.Tree.{leaf, array, object}
use Rattle.tc_model.specs.KnownNames.{HasEach}
use Rattle.tc_model.specs.Stored.{IsObject}
use Rattle.tc_record.specs.Preorder.{closed, Token, token, tokens_of, members_preorder}
use Rattle.tc_record.specs.Record.{labels, piece_tag, tags, spelling_of, record_of, NumberedTree, IsRecordOf}
use Rattle.tc_compact.specs.Compacted.{compacted, IsCompactedIn}
use Rattle.tc_compact.specs.Layout.{parts_of}
use Rattle.tc_compact.specs.Slots.{names_in}
use Rattle.tc_compact.proofs.Laid.{record_laid, whole_length}
use Rattle.tc_compact.proofs.Agreeing.{same_order}
use Rattle.tc_compact.proofs.Compacts.{compacts, compacted_short, numbers_below}
use Rattle.tc_compact.proofs.Relabelled.{tokens-numbered}
use Rattle.tc_compact.proofs.RoundTrip.{one_record}
use Rattle.tc_record.specs.Walk.{Key, number}
use Rattle.tc_record.specs.Borrowed.{Record, Spells, IsBelow, named_tokens}
use Rattle.tc_record.proofs.Keyed.{retoken}
use Rattle.tc_model.proofs.NameNumbers.{number_of-below, numbered}
use Rattle.tc_model.proofs.StoredDocuments.{keyless_object}
use Rattle.tc_component.specs.Fetching.{IsRecordWithin}
use Rattle.tc_record.proofs.OneDocument.{documents_are_one}
use Rattle.tc_plain_model.specs.Writes.{Write}
use Rattle.tc_lsm_model.specs.Contents as contents
use Rattle.tc_component.specs.Meaning.{IsRecordOfOne}
use Rattle.tc_component.specs.Rows.{record_in, rows_as, row_as, IsShortWrite}
use Rattle.tc_component.specs.Spelling.{IsVersion, held_bytes, slots_of, IsSlot}

-- a document that an entry may have, in a file of a version
pub record IsKept (version : ℕ) (names : List Name) (d : Document) : Type 0 where
  pub whole : IsRecordOf d (record_of d)
  pub compact : IsCompactedIn version names d (record_in version names d)

module _ (version : ℕ) (told : IsVersion version) where
  pub kept : (names : List Name) (key : ℕ) (d : Document) → IsDictionary names → contents.IsEntry names (key, Some d) → length (record_of d) < 2 ^ 30 → IsKept version names d
  kept names key d dictionary is short =
      let whole : IsRecordOf d (record_of d) = record { document = is.document; is_object = keyless_object d is.storable.1; shallow = is.storable.0; spelled = refl; short = omega (arith, short) } in
      let r : Record = record { bytes = record_of d; form = 0; named = true; tokens = named_tokens d } in
      let spells : Spells r = inl (d, (refl, whole, refl, refl)) in
      let ls = names_in r.tokens in
      let ns = map (name_number names) ls in
      let known : HasEach names ls = subst (HasEach names) (sym (same_order d)) is.named in
      let few = compacted_short version r ns spells refl short (length-map ls (name_number names)) (numbers_below names dictionary ls) in
      let made = compacts version names d r ns _ dictionary spells whole known refl refl few in
      record { whole = whole; compact = subst (IsCompactedIn version names d) made.numbered.spelled made }

  pub only : (names : List Name) (d : Document) → IsKept version names d → IsRecordOfOne version names d (record_in version names d)
  only names d is = record {
    record_is = is.compact;
    one = λ e whole other under.
        let same : whole ≡ record_of d = one_record e d whole (record_of d) (record_in version names d) names other under is.whole (version, (told, is.compact)) in
        documents_are_one e d (record_of d) (subst (IsRecordOf e) same other) is.whole;
  }

  -- ---- its numbers

  label_within : (names : List Name) (label : Option Name) (ls : List Name) (rest : List Key) → HasEach names (option_to_list label ++ ls) → (HasEach names ls → AllByRecursion (IsBelow (length names)) rest)
      → AllByRecursion (IsBelow (length names)) (option_to_list (option_map (λ l. number (name_number names l)) label) ++ rest)
  label_within names None ls rest known more = more known
  label_within names (Some l) ls rest known more = (number_of-below names l (name_number names l) (numbered names l known.0), more known.1)

  tokens_within : (names : List Name) (ts : List (Token Name Scalar)) → HasEach names (labels ts) → AllByRecursion (IsBelow (length names)) (labels (map (retoken (λ l. number (name_number names l))) ts))
  tokens_within names [] known = tt
  tokens_within names (t ∷ ts) known = label_within names t.label (labels ts) (labels (map (retoken (λ l. number (name_number names l))) ts)) known (tokens_within names ts)

  pub within_names : (names : List Name) (d : Document) → IsKept version names d → IsRecordWithin version (length names) (record_in version names d)
  within_names names d is = record {
    told = told;
    tree = compacted names d;
    is_record = is.compact.numbered;
    below = subst (λ ts. AllByRecursion (IsBelow (length names)) (labels ts)) (sym (tokens-numbered (name_number names) d)) (tokens_within names (tokens_of d) is.compact.known);
  }

  -- ---- how long a record is

  object_tags : (n : NumberedTree) → IsObject n → 2 ≤ length (tags (tokens_of n))
  object_tags (leaf s) is = absurd is
  object_tags (array xs) is = absurd is
  object_tags (object ms) is =
      omega (arith, length-map (tokens_of (object ms)) (λ (t : Token ℕ Scalar). piece_tag t.piece), length-append (members_preorder ms) (token None closed ∷ []))

  pub long_record : (names : List Name) (d : Document) → IsKept version names d → 25 ≤ length (record_in version names d)
  long_record names d is =
      let n = compacted names d in
      let s = spelling_of version in
      let ts = tokens_of n in
      omega (arith, object_tags n is.compact.numbered.is_object, ap length (record_laid s ts (labels ts) [] version), whole_length s version (parts_of ts) (labels ts) [])

  -- ---- slots

  one_slot : (names : List Name) (w : Write) → IsDictionary names → contents.IsEntry names w → IsShortWrite w → IsSlot (record { key = w.0; length = length (held_bytes (row_as version names w).1) })
  one_slot names (key, None) dictionary is short = record { key = is.key; fits = omega arith; length = inl refl }
  one_slot names (key, Some d) dictionary is short =
      let k = kept names key d dictionary is short in
      record { key = is.key; fits = k.compact.numbered.short; length = inr (long_record names d k) }

  pub each_slot : (names : List Name) (ws : List Write) → IsDictionary names → All (contents.IsEntry names) ws → All IsShortWrite ws → AllByRecursion IsSlot (slots_of (rows_as version names ws))
  each_slot names [] dictionary is short = tt
  each_slot names (w ∷ ws) dictionary is short =
      (one_slot names w dictionary (All-head (contents.IsEntry names) w ws is) (All-head IsShortWrite w ws short), each_slot names ws dictionary (All-tail (contents.IsEntry names) w ws is) (All-tail IsShortWrite w ws short))
