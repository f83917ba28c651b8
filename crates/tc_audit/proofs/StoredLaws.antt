-- Which records spell documents as components keep them.
use Rattle.std.proofs.Common.{◌≡◌, ◌∙◌, ◌↔◌, ◌<◌, ◌^◌, ℕ, Bool, true, false, IsTrue, List, length, refl, sym, ap, subst, arith, inl, inr}
use Rattle.std.specs.List.{AllByRecursion}
use Rattle.std.proofs.lemmas.Bool.{both_ways}
use Rattle.tc_model.specs.Document.{Name, Document, document_shape}
use Rattle.tc_model.specs.Dictionary.{Extends, IsDictionary}
use Rattle.tc_model.specs.KnownNames.{HasEach}
use Rattle.tc_model.specs.ShapeNames.{names_within}
use Rattle.tc_model.specs.Stored.{IsKeyless}
use Rattle.tc_record.specs.Record.{labels, record_of, NumberedTree, IsNumberedForm, IsNumberedRecordIn, IsRecordOf}
use Rattle.tc_record.specs.Preorder.{tokens_of}
use Rattle.tc_record.specs.Borrowed.{Record, Spells, IsBelow, numbered_tokens}
use Rattle.tc_compact.specs.Compacted.{compacted, IsCompactedIn}
use Rattle.tc_compact.specs.Meant.{expanded, IsRecordUnder}
use Rattle.tc_compact.proofs.Agreeing.{same_order}
use Rattle.tc_compact.proofs.Compacts.{document_names, document_tokens}
use Rattle.tc_compact.proofs.NumberedTrees.{tree_tokens}
use Rattle.tc_alike.proofs.Forms.{tree_form}
use Rattle.tc_component.specs.Fetching.{IsRecordWithin}
use Rattle.tc_component.proofs.EntryRecords.{kept, within_names, IsKept}
use Rattle.tc_audit.specs.Lacking.{begins_behind, lacks_id}
use Rattle.tc_audit.specs.Stored.{IsStoredIn}
use Rattle.tc_audit.proofs.FirstMember.{keyless_behind}
use Rattle.tc_audit.proofs.LackedLabels.{keyless_by_test, test_of_keyless}
use Rattle.tc_audit.proofs.NamesAgain.{tree_again}

-- ---- what a stored record is

-- its document is one that an entry may have
pub kept_in : (version : ℕ) (names : List Name) (bytes : List ℕ) → IsDictionary names → (s : IsStoredIn version names bytes) → IsKept version names s.document
kept_in version names bytes dictionary s = kept version s.told names 0 s.document dictionary (record { key = omega arith; document = s.is_document; storable = s.storable; named = s.named }) s.short

pub stored_under : (version : ℕ) (names : List Name) (bytes : List ℕ) → IsDictionary names → (s : IsStoredIn version names bytes) → IsRecordUnder names s.document bytes
stored_under version names bytes dictionary s =
    let k = kept_in version names bytes dictionary s in
    inr (record_of s.document, k.whole, (version, (s.told, subst (IsCompactedIn version names s.document) (sym s.spelled) k.compact)))

pub stored_numbered : (version : ℕ) (names : List Name) (bytes : List ℕ) → IsDictionary names → (s : IsStoredIn version names bytes) → IsNumberedRecordIn version (compacted names s.document) bytes
stored_numbered version names bytes dictionary s = subst (IsNumberedRecordIn version (compacted names s.document)) (sym s.spelled) (kept_in version names bytes dictionary s).compact.numbered

stored_tokens : (names : List Name) (r : Record) → IsDictionary names → Spells r → (s : IsStoredIn r.form names r.bytes) → r.tokens ≡ numbered_tokens (compacted names s.document)
stored_tokens names r dictionary spells s = tree_tokens r r.form (compacted names s.document) spells s.told (stored_numbered r.form names r.bytes dictionary s)

-- ---- the tests

-- the numbers of a stored record are below the names, and its document's record is short
pub stored_short : (names : List Name) (r : Record) → IsDictionary names → Spells r → (s : IsStoredIn r.form names r.bytes) → AllByRecursion (IsBelow (length names)) (labels r.tokens) × (length (record_of (expanded names (compacted names s.document))) < 2 ^ 30)
stored_short names r dictionary spells s =
    let w : IsRecordWithin r.form (length names) r.bytes = subst (IsRecordWithin r.form (length names)) (sym s.spelled) (within_names r.form s.told names s.document (kept_in r.form names r.bytes dictionary s)) in (
      subst (λ ts. AllByRecursion (IsBelow (length names)) (labels ts)) (sym (tree_tokens r r.form w.tree spells w.told w.is_record)) w.below,
      subst (λ d. length (record_of d) < 2 ^ 30) (sym (tree_again names s.document s.named)) s.short,
    )

pub stored_lacks : (names : List Name) (r : Record) → IsDictionary names → Spells r → IsStoredIn r.form names r.bytes → lacks_id names r.tokens ≡ true
stored_lacks names r dictionary spells s =
    ap (lacks_id names) (stored_tokens names r dictionary spells s) ∙ test_of_keyless names s.document s.storable.1 s.named

-- the dictionary has the names of a document whose numbers a record carries
pub known_under : (names : List Name) (form : ℕ) (d : Document) (bytes : List ℕ) → IsCompactedIn form names d bytes → HasEach names (names_within (document_shape d))
known_under names form d bytes compact = subst (HasEach names) (sym (document_names d) ∙ same_order d) compact.known

-- a document without a member `id` has a record without the number of that name
pub lacks_by_document : (names : List Name) (r : Record) (d : Document) → r.named ≡ false → Spells r → IsRecordUnder names d r.bytes → IsKeyless d → lacks_id names r.tokens ≡ true
lacks_by_document names r d unnamed spells (inl is) keyless = absurd (both_ways r.named unnamed (document_tokens r d spells is).0)
lacks_by_document names r d unnamed spells (inr (whole, is, under)) keyless =
    ap (lacks_id names) (tree_tokens r under.0 (compacted names d) spells under.1.0 under.1.1.numbered) ∙ test_of_keyless names d keyless (known_under names under.0 d r.bytes under.1.1)

-- an object whose first member is called by a name behind `id` has no member `id`
pub lacks_by_first : (names : List Name) (r : Record) (d : Document) → r.named ≡ false → Spells r → IsRecordUnder names d r.bytes → ((n : NumberedTree) → r.tokens ≡ numbered_tokens n → IsTrue (begins_behind names (labels (tokens_of n)))) → lacks_id names r.tokens ≡ true
lacks_by_first names r d unnamed spells (inl is) begins = absurd (both_ways r.named unnamed (document_tokens r d spells is).0)
lacks_by_first names r d unnamed spells (inr (whole, is, under)) begins =
    let known = known_under names under.0 d r.bytes under.1.1 in
    let first = begins (compacted names d) (tree_tokens r under.0 (compacted names d) spells under.1.0 under.1.1.numbered) in
    lacks_by_document names r d unnamed spells (inr (whole, is, under)) (keyless_behind names d is.is_object is.document known first)

pub stored_by_tests : (names : List Name) (r : Record) (d : Document) → r.named ≡ false → Spells r → IsRecordUnder names d r.bytes
    → ((n : NumberedTree) → r.tokens ≡ numbered_tokens n → length (record_of (expanded names n)) < 2 ^ 30) → lacks_id names r.tokens ≡ true → IsStoredIn r.form names r.bytes
stored_by_tests names r d unnamed spells (inl is) short lacks = absurd (both_ways r.named unnamed (document_tokens r d spells is).0)
stored_by_tests names r d unnamed spells (inr (whole, is, under)) short lacks =
    let n = compacted names d in
    let tokens = tree_tokens r under.0 n spells under.1.0 under.1.1.numbered in
    let form = sym (tree_form r under.0 n spells under.1.0 under.1.1.numbered) in
    let own : IsCompactedIn r.form names d r.bytes = subst (λ f. IsCompactedIn f names d r.bytes) form under.1.1 in
    let known = known_under names r.form d r.bytes own in
    let test : lacks_id names (numbered_tokens n) ≡ true = ap (lacks_id names) (sym tokens) ∙ lacks in
    record {
      told = subst IsNumberedForm form under.1.0;
      document = d;
      is_document = is.document;
      storable = (is.shallow, keyless_by_test names d is.is_object known test);
      named = known;
      short = subst (λ e. length (record_of e) < 2 ^ 30) (tree_again names d known) (short n tokens);
      spelled = own.numbered.spelled;
    }

-- ---- what is tested

-- that a record is short, by the same record once more
abbrev pub TellsShort : List Name → Record → Bool → Type 0
TellsShort names r short = (n : NumberedTree) → r.tokens ≡ numbered_tokens n → IsTrue short ↔ AllByRecursion (IsBelow (length names)) (labels r.tokens) × (length (record_of (expanded names n)) < 2 ^ 30)

pub passes_short : (names : List Name) (r again : Record) (short : Bool) → IsDictionary names → Spells r → again ≡ r → TellsShort names again short → IsStoredIn r.form names r.bytes → IsTrue short
passes_short names r again short dictionary spells same told s =
    (subst (λ t. TellsShort names t short) same told (compacted names s.document) (stored_tokens names r dictionary spells s)).1 (stored_short names r dictionary spells s)

pub short_tested : (names : List Name) (r again : Record) (short : Bool) → again ≡ r → TellsShort names again short → IsTrue short → (n : NumberedTree) → r.tokens ≡ numbered_tokens n → length (record_of (expanded names n)) < 2 ^ 30
short_tested names r again short same told test n is = ((subst (λ t. TellsShort names t short) same told n is).0 test).1

pub passes_spelling : (names : List Name) (r again : Record) (spelled : Bool) → IsDictionary names → again ≡ r → (spelled ≡ false → (d : Document) → IsRecordUnder names d again.bytes → ⊥) → IsStoredIn r.form names r.bytes → IsTrue spelled
passes_spelling names r again true dictionary same none s = refl
passes_spelling names r again false dictionary same none s = absurd (none refl s.document (subst (λ (t : Record). IsRecordUnder names s.document t.bytes) (sym same) (stored_under r.form names r.bytes dictionary s)))

pub spelled_again : (names : List Name) (r again : Record) → again ≡ r → (d : Document) × IsRecordUnder names d again.bytes → (d : Document) × IsRecordUnder names d r.bytes
spelled_again names r again same found = subst (λ (t : Record). (d : Document) × IsRecordUnder names d t.bytes) same found

-- ---- what else it is

pub stored_within : (version : ℕ) (names : List Name) (bytes : List ℕ) → IsDictionary names → IsStoredIn version names bytes → IsRecordWithin version (length names) bytes
stored_within version names bytes dictionary s = subst (IsRecordWithin version (length names)) (sym s.spelled) (within_names version s.told names s.document (kept_in version names bytes dictionary s))

-- under more names it is a record of the same document, since numbers keep their names
module _ (stays : (form : ℕ) (d : Document) (whole bytes : List ℕ) (names newer : List Name) → IsRecordOf d whole → IsCompactedIn form names d bytes → IsDictionary newer → Extends newer names → IsCompactedIn form newer d bytes) where
  pub under_newer : (names newer : List Name) (d : Document) (bytes : List ℕ) → IsDictionary newer → Extends newer names → IsRecordUnder names d bytes → IsRecordUnder newer d bytes
  under_newer names newer d bytes dictionary extends (inl is) = inl is
  under_newer names newer d bytes dictionary extends (inr (whole, is, under)) = inr (whole, is, (under.0, (under.1.0, stays under.0 d whole bytes names newer is under.1.1 dictionary extends)))

pub stored_at_under : (version : ℕ) (names : List Name) (bytes same : List ℕ) (d : Document) → IsDictionary names → bytes ≡ same → (s : IsStoredIn version names bytes) → s.document ≡ d → IsRecordUnder names d same
stored_at_under version names bytes same d dictionary are s is = subst (IsRecordUnder names d) are (subst (λ e. IsRecordUnder names e bytes) is (stored_under version names bytes dictionary s))
