-- One entry more of a component.
use Rattle.std.proofs.Common.{◌≡◌, ◌∙◌, ◌<◌, ◌≤◌, ◌+◌, ◌^◌, ◌==◌, ℕ, zero, suc, Bool, true, false, if◌then◌else◌, List, [], ◌∷◌, Option, None, Some, length, take, drop, slice_get, option_to_list, unwrap_or, refl, sym, ap, subst, arith}
use Rattle.std.specs.List.Sorted.{IsStrictlySortedBy}
use Rattle.std.specs.Ordering.{nat_cmp}
use Rattle.std.proofs.lemmas.Bool.{eqb-true}
use Rattle.std.proofs.lemmas.Bool.Decides.{nat_tests}
use Rattle.std.proofs.lemmas.Option.{same_Some}
use Rattle.tc_model.specs.Document.{Name, Document}
use Rattle.tc_model.specs.Keyed.{Ascends, value_of, values_in}
use Rattle.tc_plain_model.specs.Writes.{Pairs, after_writes}
use Rattle.tc_plain_model.proofs.WriteLookups.{Ascends-after_writes}
use Rattle.tc_lsm_model.specs.Contents.{Partition, Content}
use Rattle.tc_lsm_model.specs.Lists.{live}
use Rattle.tc_schema_model.specs.Counted.{Counted, IsCanonical}
use Rattle.tc_schema_model.specs.Stands.{StandsFor}
use Rattle.tc_component.specs.declared.slot.Slot.{Slot}
use Rattle.tc_component.specs.declared.found.DirEntry.{DirEntry}
use Rattle.tc_component.specs.declared.found.Place.{Place}
use Rattle.tc_component.specs.Columns.{IsEntry}
use Rattle.tc_component.specs.Fetching.{IsPlace, record_at}
use Rattle.tc_component.specs.Loading.{ComponentState}
use Rattle.tc_component.specs.Spelling.{Index, IsIndex, lengths_of, slot}
use Rattle.tc_audit.specs.Reasons.{AreRight, IsWrongBehind}
use Rattle.tc_audit.specs.Stored.{IsStoredIn}
use Rattle.tc_audit.specs.Told.{document_in, entry_in, entries_in, content_in, bytes_told, AreStoredUpTo}
use Rattle.tc_audit.specs.Walking.{IsChangedBy, IsHarmAt, IsLessBy, IsNeverTold, IsUpTo, Tells}
use Rattle.tc_audit.specs.declared.verdict.Wrong.{Wrong}
use Rattle.tc_audit.proofs.ContentLaws.{ReadsMeant, drop_first, keys_in, record_here, stored_document}
use Rattle.tc_audit.proofs.CountedSteps.{stands_after, untouched, after_one_more, one_more_among}

-- ---- the entry of a slot

entry_at : (names : List Name) (slots : List Slot) (bytes : List ℕ) (at : ℕ) (s : Slot) → slice_get slots at ≡ Some s → slice_get (entries_in names slots bytes) at ≡ Some (entry_in names s (drop (lengths_of (take at slots)) bytes))
entry_at names [] bytes at s here = absurd (cc)
entry_at names (t ∷ slots) bytes zero s here = ap (λ u. Some (entry_in names u bytes)) (same_Some t s here)
entry_at names (t ∷ slots) bytes (suc at) s here =
    entry_at names slots (drop t.length bytes) at s here ∙ ap (λ rest. Some (entry_in names s rest)) (sym (drop_first t (take at slots) bytes))

slot_entry : (c : Index) (whole : List ℕ) (at : ℕ) (s : Slot) → slice_get c.slots at ≡ Some s → slice_get (content_in c whole).entries at ≡ Some (s.key, if s.length == 0 then None else document_in c.names (record_at c.slots at whole))
slot_entry c whole at s here =
    entry_at c.names c.slots (drop 61 whole) at s here
    ∙ ap (λ bytes. Some (s.key, if s.length == 0 then None else document_in c.names bytes)) (sym (record_here c.slots at s whole here))

-- one slot more whose record is a stored one, if it has one
pub stored_more : (c : Index) (whole : List ℕ) (at : ℕ) (s : Slot) → slice_get c.slots at ≡ Some s → (0 < s.length → IsStoredIn c.version c.names (record_at c.slots at whole)) → AreStoredUpTo c whole at → AreStoredUpTo c whole (at + 1)
stored_more c whole at s here stored before = λ n t below there some. by_test n t below there some (n == at) refl
  where
    by_test : (n : ℕ) (t : Slot) → n < at + 1 → slice_get c.slots n ≡ Some t → 0 < t.length → (b : Bool) → (n == at) ≡ b → IsStoredIn c.version c.names (record_at c.slots n whole)
    by_test n t below there some true is =
        let same : n ≡ at = eqb-true n at is in
        let slot_is : t ≡ s = same_Some t s (sym there ∙ ap (slice_get c.slots) same ∙ here) in
        subst (λ k. IsStoredIn c.version c.names (record_at c.slots k whole)) (sym same) (stored (subst (λ (u : Slot). 0 < u.length) slot_is some))
    by_test n t below there some false is = let less : n < at = grind (arith, nat_tests) in before n t less there some

-- what is told to be wrong with a record is wrong with the component
pub harm_behind : {F : Type 0} (told : F → Option (List ℕ)) (cs : List Content) (m : ComponentState F) (whole : List ℕ) (at number : ℕ) (s : Slot) (w : Wrong) → Tells told m whole → number ≡ length cs
    → slice_get m.index.slots at ≡ Some s → 0 < s.length → AreStoredUpTo m.index whole at → IsHarmAt number m.index at whole w → IsWrongBehind told cs m w
harm_behind told cs m whole at number s w tells number_is here some before harm =
    let bytes_are : bytes_told told m ≡ whole = ap (λ o. unwrap_or o []) tells.0 in
    subst (IsWrongBehind told cs m) (sym harm.0) (
      number_is,
      record {
        at = at;
        slot = s;
        here = here;
        some = some;
        place_is = refl;
        bytes_are = ap (record_at m.index.slots at) (sym bytes_are);
        harmed = harm.1;
        first = subst (λ bytes. AreStoredUpTo m.index bytes at) (sym bytes_are) before;
      },
    )

-- ---- how far they are counted

-- nothing of it yet
pub up_to_start : (c : Index) (whole : List ℕ) (pairs : Pairs) (schema : Counted) → StandsFor c.names schema (values_in pairs) → IsUpTo c whole pairs 0 schema 0
up_to_start c whole pairs schema stands = record { stored = λ at s below here some. absurd (omega (arith, below)); gained_is = refl; stands = λ few. stands }

module _ (c : Index) (whole : List ℕ) (pairs : Pairs) (up : Ascends pairs) (lawful : IsIndex c) where
  pub ascending : Ascends (content_in c whole).entries
  ascending = subst (IsStrictlySortedBy nat_cmp) (sym (keys_in c.names c.slots (drop 61 whole))) lawful.ascend

  up_to_next : (at key gained : ℕ) (v : Option Document) (before after : Counted) → slice_get (content_in c whole).entries at ≡ Some (key, v) → AreStoredUpTo c whole (at + 1) → IsCanonical (length c.names) after
      → (gained + length (option_to_list v) ≤ 2 ^ 32 → IsChangedBy (value_of key pairs) v c.names before after) → IsUpTo c whole pairs at before gained
      → IsUpTo c whole pairs (at + 1) after (gained + length (option_to_list v))
  up_to_next at key gained v before after here stored canonical moves u = record {
    stored = stored;
    gained_is = ap (λ n. n + length (option_to_list v)) u.gained_is ∙ sym (one_more_among (content_in c whole).entries at (key, v) here);
    stands = λ few.
        let ps = after_writes pairs (take at (content_in c whole).entries) in
        let changed : IsChangedBy (value_of key ps) v c.names before after = subst (λ o. IsChangedBy o v c.names before after) (sym (untouched pairs (content_in c whole).entries at key v up ascending here)) (moves few) in
        subst (λ qs. StandsFor c.names after (values_in qs)) (sym (after_one_more pairs (content_in c whole).entries at (key, v) here))
        (stands_after c.names before after ps key v (Ascends-after_writes pairs (take at (content_in c whole).entries) up) (u.stands (omega (arith, few))) canonical changed);
  }

  -- what was live of a key before its entry
  live_before : (at : ℕ) (s : Slot) → slice_get c.slots at ≡ Some s → value_of s.key (after_writes pairs (take at (content_in c whole).entries)) ≡ value_of s.key pairs
  live_before at s here = untouched pairs (content_in c whole).entries at s.key _ up ascending (slot_entry c whole at s here)

  pub up_to_gone : (at gained : ℕ) (s : Slot) (before after : Counted) → slice_get c.slots at ≡ Some s → s.length ≡ 0 → IsCanonical (length c.names) after → (gained ≤ 2 ^ 32 → IsLessBy (value_of s.key pairs) c.names before after)
      → IsUpTo c whole pairs at before gained → IsUpTo c whole pairs (at + 1) after gained
  up_to_gone at gained s before after here none canonical less u =
      let test : (s.length == 0) ≡ true = grind (arith, nat_tests) in
      let entry : slice_get (content_in c whole).entries at ≡ Some (s.key, None) = slot_entry c whole at s here ∙ ap (λ b. Some (s.key, if b then None else document_in c.names (record_at c.slots at whole))) test in
      let stored : AreStoredUpTo c whole (at + 1) = stored_more c whole at s here (λ some. absurd (omega (arith, none, some))) u.stored in
      let same : gained + 0 ≡ gained = omega arith in
      subst (IsUpTo c whole pairs (at + 1) after) same
      (up_to_next at s.key gained None before after entry stored canonical (λ few path t. let one = less (omega (arith, few)) path t in omega (arith, one)) u)

  pub up_to_live : ReadsMeant → (at gained : ℕ) (s : Slot) (before after : Counted) → slice_get c.slots at ≡ Some s → 0 < s.length → IsStoredIn c.version c.names (record_at c.slots at whole) → IsCanonical (length c.names) after
      → (gained < 2 ^ 32 → IsChangedBy (value_of s.key pairs) (document_in c.names (record_at c.slots at whole)) c.names before after)
      → IsUpTo c whole pairs at before gained → IsUpTo c whole pairs (at + 1) after (gained + 1)
  up_to_live reads at gained s before after here some stored canonical moves u =
      let test : (s.length == 0) ≡ false = grind (arith, nat_tests) in
      let d = stored.document in
      let is : document_in c.names (record_at c.slots at whole) ≡ Some d = stored_document reads c.version c.names (record_at c.slots at whole) lawful.names stored in
      let entry : slice_get (content_in c whole).entries at ≡ Some (s.key, Some d) =
      slot_entry c whole at s here ∙ ap (λ b. Some (s.key, if b then None else document_in c.names (record_at c.slots at whole))) test ∙ ap (λ v. Some (s.key, v)) is in
      up_to_next at s.key gained (Some d) before after entry (stored_more c whole at s here (λ _. stored) u.stored) canonical
      (λ few. subst (λ v. IsChangedBy (value_of s.key pairs) v c.names before after) is (moves (omega (arith, few)))) u

  -- what is told of a key's record only where what is counted does not stand for what is live before the entry
  pub never_there : {F : Type 0} (told : F → Option (List ℕ)) (part : Partition) (older : List (ComponentState F)) (cs : List Content) (at gained : ℕ) (s : Slot) (schema : Counted) → pairs ≡ live cs → AreRight told part older cs → slice_get c.slots at ≡ Some s
      → IsUpTo c whole pairs at schema gained → IsNeverTold told older s.key c.names schema gained → ⊥
  never_there told part older cs at gained s schema same right here u none =
      none.never part cs (after_writes pairs (take at (content_in c whole).entries)) right (live_before at s here ∙ ap (value_of s.key) same) (u.stands none.few)

-- ---- the place of an entry

pub record IsPlaced (slots : List Slot) (at : ℕ) (e : DirEntry) (place : Place) (bytes : ℕ) : Type 0 where
  pub at_is : place.at ≡ at
  pub some : 0 < bytes
  pub place_is : IsPlace slots place

pub placed : (slots : List Slot) (at : ℕ) (e : DirEntry) (place : Place) → (is : IsEntry slots at e) → e.place ≡ Some place → IsPlaced slots at e place is.bytes
placed slots at e place is there = by_test (is.bytes == 0) refl
  where
    by_test : (b : Bool) → (is.bytes == 0) ≡ b → IsPlaced slots at e place is.bytes
    by_test true none = let gone = is.gone (eqb-true is.bytes 0 none) in absurd (let both = sym gone ∙ there in cc)
    by_test false some =
        let long : 0 < is.bytes = grind (arith, nat_tests) in
        let same : record { at = at } ≡ place = same_Some (record { at = at }) place (sym (is.live long) ∙ there) in
        let at_is : place.at ≡ at = sym (ap (λ (p : Place). p.at) same) in
        record { at_is = at_is; some = long; place_is = (e.key, (is.bytes, subst (λ n. slice_get slots n ≡ Some (slot e.key is.bytes)) (sym at_is) is.here, long)) }

pub unplaced : (slots : List Slot) (at : ℕ) (e : DirEntry) → (is : IsEntry slots at e) → e.place ≡ None → is.bytes ≡ 0
unplaced slots at e is none = by_test (is.bytes == 0) refl
  where
    by_test : (b : Bool) → (is.bytes == 0) ≡ b → is.bytes ≡ 0
    by_test true same = eqb-true is.bytes 0 same
    by_test false some = let long : 0 < is.bytes = grind (arith, nat_tests) in absurd (let both = sym (is.live long) ∙ none in cc)
