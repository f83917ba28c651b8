-- Where the entries of a content stand in its component.
use Rattle.std.proofs.Common.{◌≡◌, ◌∙◌, ◌<◌, ◌+◌, ◌==◌, ℕ, zero, suc, Bool, true, false, List, [], ◌∷◌, ◌++◌, Option, None, Some, length, map, take, drop, get_or, slice_get, refl, sym, ap, subst, arith, append_assoc}
use Rattle.std.specs.Prelude.{All}
use Rattle.std.specs.List.Sorted.{IsStrictlySortedBy}
use Rattle.std.specs.Ordering.{nat_cmp}
use Rattle.std.specs.Map.{keys_of}
use Rattle.std.proofs.lemmas.Bool.{eqb-true}
use Rattle.std.proofs.lemmas.Bool.Decides.{nat_tests}
use Rattle.std.proofs.lemmas.List.{take_at, drop_at, drop-drop}
use Rattle.std.proofs.lemmas.List.Elements.{All-head, All-tail}
use Rattle.std.proofs.lemmas.Map.Keys.{sorted_tail, below_from_sorted}
use Rattle.tc_model.specs.Document.{Name, Document}
use Rattle.tc_model.specs.Keyed.{Ascends, value_of}
use Rattle.tc_model.proofs.KeyedEquality.{value_of-here, value_of-other}
use Rattle.tc_plain_model.specs.Writes.{Write}
use Rattle.tc_lsm_model.specs.Contents as contents
use Rattle.tc_component.specs.declared.found.Found.{Found}
use Rattle.tc_component.specs.declared.found.Found.TheVariants.{Absent, Gone, At}
use Rattle.tc_component.specs.declared.slot.Slot.{Slot}
use Rattle.tc_component.specs.Columns.{IsFound}
use Rattle.tc_component.specs.Fetching.{length_at}
use Rattle.tc_component.specs.Meaning.{MeansOf}
use Rattle.tc_component.specs.Rows.{record_in, row_as, rows_as, IsShortWrite}
use Rattle.tc_component.specs.Spelling.{IsVersion, slot, slots_of, lengths_of, held_bytes, records, Ascend}
use Rattle.tc_component.proofs.EntryRecords.{kept, long_record}
use Rattle.tc_component.proofs.Lookups.{one_more}

-- ---- keys

pub keys_are : (version : ℕ) (names : List Name) (ws : List Write) → map (λ (s : Slot). s.key) (slots_of (rows_as version names ws)) ≡ keys_of ws
keys_are version names [] = refl
keys_are version names (w ∷ ws) = ap (λ (keys : List ℕ). w.0 ∷ keys) (keys_are version names ws)

pub ascend_are : (version : ℕ) (names : List Name) (ws : List Write) → Ascends ws → Ascend (slots_of (rows_as version names ws))
ascend_are version names ws up = subst (IsStrictlySortedBy nat_cmp) (sym (keys_are version names ws)) up

-- ---- the entry at a place

-- the entry of a slot
pub record Here (version : ℕ) (names : List Name) (ws : List Write) (at key bytes : ℕ) : Type 0 where
  pub value : Option Document
  pub here : slice_get ws at ≡ Some (key, value)
  pub sized : length (held_bytes (row_as version names (key, value)).1) ≡ bytes

pub entry_here : (version : ℕ) (names : List Name) (ws : List Write) (at key bytes : ℕ) → slice_get (slots_of (rows_as version names ws)) at ≡ Some (slot key bytes) → Here version names ws at key bytes
entry_here version names [] at key bytes is = absurd (cc)
entry_here version names (w ∷ ws) zero key bytes is =
    let same : slot w.0 (length (held_bytes (row_as version names w).1)) ≡ slot key bytes = cc in
    record { value = w.1; here = ap (λ (k : ℕ). Some (k, w.1)) (ap (λ (s : Slot). s.key) same); sized = ap (λ (s : Slot). s.length) same }
entry_here version names (w ∷ ws) (suc at) key bytes is =
    let rest = entry_here version names ws at key bytes is in record { value = rest.value; here = rest.here; sized = rest.sized }

key_at : (ws : List Write) (at key : ℕ) (v : Option Document) → slice_get ws at ≡ Some (key, v) → (at < length (keys_of ws)) × (get_or (keys_of ws) at 0 ≡ key)
key_at [] at key v is = absurd (cc)
key_at (w ∷ ws) zero key v is = let same : w ≡ (key, v) = cc in (omega arith, ap (λ (e : Write). e.0) same)
key_at (w ∷ ws) (suc at) key v is = let rest = key_at ws at key v is in (omega (arith, rest.0), rest.1)

pub value_there : (ws : List Write) (at key : ℕ) (v : Option Document) → Ascends ws → slice_get ws at ≡ Some (key, v) → value_of key ws ≡ Some v
value_there [] at key v up is = absurd (cc)
value_there (w ∷ ws) zero key v up is = let same : w ≡ (key, v) = cc in ap (λ (e : Write). value_of key (e ∷ ws)) same ∙ value_of-here key v ws
value_there (w ∷ ws) (suc at) key v up is =
    let found = key_at ws at key v is in
    let less : w.0 < key = omega (arith, below_from_sorted (keys_of (w ∷ ws)) 0 (suc at) 0 up (omega arith) (omega (arith, found.0)), found.1) in
    let other : (key == w.0) ≡ false = grind (arith, nat_tests) in
    value_of-other key w.0 w.1 ws other ∙ value_there ws at key v (sorted_tail nat_cmp w.0 (keys_of ws) up) is

-- a key with a value has a slot
slot_of_value : (version : ℕ) (names : List Name) (ws : List Write) (key : ℕ) (v : Option Document) → value_of key ws ≡ Some v → (at : ℕ) × (s : Slot) × (slice_get (slots_of (rows_as version names ws)) at ≡ Some s) × (s.key ≡ key)
slot_of_value version names [] key v is = absurd (cc)
slot_of_value version names (w ∷ ws) key v is = choose (key == w.0) refl (slot_of_value version names ws key v)
  where
    choose : (b : Bool) → (key == w.0) ≡ b → (value_of key ws ≡ Some v → (at : ℕ) × (s : Slot) × (slice_get (slots_of (rows_as version names ws)) at ≡ Some s) × (s.key ≡ key)) → (at : ℕ) × (s : Slot) × (slice_get (slots_of (rows_as version names (w ∷ ws))) at ≡ Some s) × (s.key ≡ key)
    choose true same more = (0, slot w.0 (length (held_bytes (row_as version names w).1)), refl, sym (eqb-true key w.0 same))
    choose false other more = let rest = more (sym (value_of-other key w.0 w.1 ws other) ∙ is) in (suc rest.0, rest.1, rest.2, rest.3)

none_found : (version : ℕ) (names : List Name) (ws : List Write) (key : ℕ) → IsFound (slots_of (rows_as version names ws)) key Absent → value_of key ws ≡ None
none_found version names ws key absent = cases (value_of key ws) refl
  where
    cases : (o : Option (Option Document)) → value_of key ws ≡ o → value_of key ws ≡ None
    cases None is = is
    cases (Some v) is = let there = slot_of_value version names ws key v is in absurd (absent there.0 there.1 there.2 there.3)

entry_at : (names : List Name) (ws : List Write) (at key : ℕ) (v : Option Document) → All (contents.IsEntry names) ws → All IsShortWrite ws → slice_get ws at ≡ Some (key, v) → contents.IsEntry names (key, v) × IsShortWrite (key, v)
entry_at names [] at key v each short is = absurd (cc)
entry_at names (w ∷ ws) zero key v each short is =
    let same : w ≡ (key, v) = cc in (subst (contents.IsEntry names) same (All-head (contents.IsEntry names) w ws each), subst IsShortWrite same (All-head IsShortWrite w ws short))
entry_at names (w ∷ ws) (suc at) key v each short is = entry_at names ws at key v (All-tail (contents.IsEntry names) w ws each) (All-tail IsShortWrite w ws short) is

pub entry_of : (c : contents.Content) (at key : ℕ) (v : Option Document) → contents.IsContent c → All IsShortWrite c.entries → slice_get c.entries at ≡ Some (key, v) → contents.IsEntry c.names (key, v) × IsShortWrite (key, v)
entry_of c at key v is short here = entry_at c.names c.entries at key v is.entries short here

-- what is found of a key
pub means : (version : ℕ) → IsVersion version → (c : contents.Content) (key : ℕ) (found : Found) → contents.IsContent c → All IsShortWrite c.entries → IsFound (slots_of (rows_as version c.names c.entries)) key found → MeansOf c.entries key found
means version told c key Absent is short found = none_found version c.names c.entries key found
means version told c key Gone is short found = let h = entry_here version c.names c.entries found.0 key 0 found.1 in of_value h.value h.here h.sized
  where
    of_value : (v : Option Document) → slice_get c.entries found.0 ≡ Some (key, v) → length (held_bytes (row_as version c.names (key, v)).1) ≡ 0 → value_of key c.entries ≡ Some None
    of_value None here sized = value_there c.entries found.0 key None is.ascends here
    of_value (Some d) here sized =
        let e = entry_of c found.0 key (Some d) is short here in absurd (omega (arith, sized, long_record version told c.names d (kept version told c.names key d is.dictionary e.0 e.1)))
means version told c key (At place) is short found = let h = entry_here version c.names c.entries place.at key found.0 found.1 in of_value h.value h.here h.sized
  where
    of_value : (v : Option Document) → slice_get c.entries place.at ≡ Some (key, v) → length (held_bytes (row_as version c.names (key, v)).1) ≡ found.0 → MeansOf c.entries key (At place)
    of_value None here sized = absurd (omega (arith, sized, found.2))
    of_value (Some d) here sized = (d, value_there c.entries place.at key (Some d) is.ascends here, here)

-- ---- the bytes at a place

pub record_there : (version : ℕ) (names : List Name) (ws : List Write) (tail : List ℕ) (at key : ℕ) (d : Document) → slice_get ws at ≡ Some (key, Some d)
    → take (length_at (slots_of (rows_as version names ws)) at) (drop (lengths_of (take at (slots_of (rows_as version names ws)))) (records (rows_as version names ws) ++ tail)) ≡ record_in version names d
record_there version names [] tail at key d is = absurd (cc)
record_there version names (w ∷ ws) tail zero key d is =
    let same : w ≡ (key, Some d) = cc in
    let own = held_bytes (row_as version names w).1 in
    ap (take (length own)) (append_assoc own (records (rows_as version names ws)) tail) ∙ take_at own (records (rows_as version names ws) ++ tail) (length own) refl ∙ ap (λ (e : Write). held_bytes (row_as version names e).1) same
record_there version names (w ∷ ws) tail (suc at) key d is =
    let own = held_bytes (row_as version names w).1 in
    let slots = slots_of (rows_as version names ws) in
    let rest = records (rows_as version names ws) in
    let first = slot w.0 (length own) in
    let before : lengths_of (take (suc at) (first ∷ slots)) ≡ length own + lengths_of (take at slots) = one_more first (take at slots) in
    let behind : drop (lengths_of (take (suc at) (first ∷ slots))) ((own ++ rest) ++ tail) ≡ drop (lengths_of (take at slots)) (rest ++ tail) =
    ap (λ (n : ℕ). drop n ((own ++ rest) ++ tail)) before ∙ sym (drop-drop (lengths_of (take at slots)) (length own) ((own ++ rest) ++ tail))
    ∙ ap (drop (lengths_of (take at slots))) (ap (drop (length own)) (append_assoc own rest tail) ∙ drop_at own (rest ++ tail) (length own) refl) in
    ap (take (length_at slots at)) behind ∙ record_there version names ws tail at key d is
