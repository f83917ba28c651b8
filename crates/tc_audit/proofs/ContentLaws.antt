-- A component whose records are stored ones is that of one content.
use Rattle.std.proofs.Common.{◌≡◌, ◌∙◌, ◌<◌, ◌≤◌, ◌+◌, ◌==◌, ℕ, zero, suc, Bool, true, false, if◌then◌else◌, List, [], ◌∷◌, ◌++◌, Option, None, Some, length, map, take, drop, slice_get, refl, sym, ap, subst, arith, inr, option_map, unwrap_or, length-append}
use Rattle.std.specs.Prelude.{All}
use Rattle.std.specs.List.{AllByRecursion}
use Rattle.std.specs.List.Sorted.{IsStrictlySortedBy}
use Rattle.std.specs.Map.{keys_of}
use Rattle.std.specs.Ordering.{nat_cmp}
use Rattle.std.proofs.Math.Seq.{take-append-add}
use Rattle.std.proofs.lemmas.Bool.{eqb-true}
use Rattle.std.proofs.lemmas.Bool.Decides.{nat_tests}
use Rattle.std.proofs.lemmas.List.{length-drop, length-take-le, take-append-drop, take_at, drop_at, drop-drop}
use Rattle.std.proofs.lemmas.List.Elements.{All-nil, All-cons, All-head, All-tail}
use Rattle.std.proofs.lemmas.List.Sums.{sum_by-append}
use Rattle.std.proofs.lemmas.Option.{same_Some, slice_get_within}
use Rattle.tc_bytes.specs.Reading.{◌>>=◌}
use Rattle.tc_model.specs.Document.{Name, Document, Scalar}
use Rattle.tc_model.specs.Dictionary.{IsDictionary}
use Rattle.tc_plain_model.specs.Writes.{Write, set}
use Rattle.tc_lsm_model.specs.Contents.{Content}
use Rattle.tc_lsm_model.specs.Contents as contents
use Rattle.tc_names.specs.Section.{section}
use Rattle.tc_schema_model.specs.SchemaBytes.{schema_bytes}
use Rattle.tc_schema_model.specs.SchemaTree.{schema_tree}
use Rattle.tc_record.specs.Preorder.{Token}
use Rattle.tc_record.specs.Walk.{Key, Format}
use Rattle.tc_record.specs.Borrowed.{Record, Spells, numbered_tokens}
use Rattle.tc_record.specs.Building.{document_read}
use Rattle.tc_record.proofs.Reading.{numbered_again}
use Rattle.tc_compact.specs.Compacted.{compacted}
use Rattle.tc_compact.specs.Meant.{tokens_meant, IsRecordUnder}
use Rattle.tc_component.specs.declared.slot.Slot.{Slot}
use Rattle.tc_component.specs.Fetching.{record_at}
use Rattle.tc_component.specs.Reading.{front_of, version_of}
use Rattle.tc_component.specs.Rows.{record_in, row_as, rows_as, component_bytes_as, component_index, IsShortWrite, IsComponent, IsIndexOf}
use Rattle.tc_component.specs.Spelling.{slot, slots_of, lengths_of, held_bytes, records, directory, head_bytes, sizes_in, file_with, Index, IsSlot, Holds}
use Rattle.tc_component.proofs.Versions.{holds_version, told_version}
use Rattle.tc_audit.specs.Stored.{IsStoredIn}
use Rattle.tc_audit.specs.Told.{document_in, entry_in, entries_in, content_in, AreStoredUpTo}
use Rattle.tc_audit.proofs.StoredLaws.{stored_under, stored_numbered}

-- what the tokens of a record mean is read as its document
abbrev pub ReadsMeant : Type 0
ReadsMeant = (r : Record) (names : List Name) (d : Document) → Spells r → IsRecordUnder names d r.bytes → document_read (tokens_meant names r.tokens) ≡ Some d

pub stored_document : ReadsMeant → (version : ℕ) (names : List Name) (bytes : List ℕ) → IsDictionary names → (s : IsStoredIn version names bytes) → document_in names bytes ≡ Some s.document
unfolding document_in
stored_document reads version names bytes dictionary s =
    let n = compacted names s.document in
    let is = stored_numbered version names bytes dictionary s in
    let r : Record = record { bytes = bytes; form = version; named = false; tokens = numbered_tokens n } in
    let spells : Spells r = inr (n, (refl, is, refl, s.told)) in
    ap (λ (o : Option (Format × List (Token Key Scalar))). o >>= λ r. document_read (tokens_meant names r.1)) (numbered_again version s.told n bytes is)
    ∙ reads r names s.document spells (stored_under version names bytes dictionary s)

-- ---- the entries of stored records

-- the slot of the first record, and the others behind it
first_sum : (s : Slot) (slots : List Slot) → s.length + lengths_of slots ≡ lengths_of (s ∷ slots)
first_sum s slots = let more : lengths_of (s ∷ slots) ≡ lengths_of (s ∷ []) + lengths_of slots = sum_by-append (λ (t : Slot). t.length) (s ∷ []) slots in omega (arith, more)

pub drop_first : {A : Type 0} (s : Slot) (slots : List Slot) (xs : List A) → drop (lengths_of (s ∷ slots)) xs ≡ drop (lengths_of slots) (drop s.length xs)
drop_first s slots xs = ap (λ n. drop n xs) (sym (first_sum s slots)) ∙ sym (drop-drop (lengths_of slots) s.length xs)

module _ (version : ℕ) (names : List Name) where
  -- each slot that has a record has a stored one, where the records stand one behind the other
  abbrev AllStored : List Slot → List ℕ → Type 0
  AllStored slots bytes = (at : ℕ) (s : Slot) → slice_get slots at ≡ Some s → 0 < s.length → IsStoredIn version names (take s.length (drop (lengths_of (take at slots)) bytes))

  -- these are the entries of the slots, and the front of the bytes has their records
  record AreEntries (slots : List Slot) (bytes : List ℕ) (ws : List Write) : Type 0 where
    slots_are : slots_of (rows_as version names ws) ≡ slots
    records_are : records (rows_as version names ws) ≡ take (lengths_of slots) bytes
    entries : All (contents.IsEntry names) ws
    short : All IsShortWrite ws

  behind : (s : Slot) (slots : List Slot) (bytes : List ℕ) → AllStored (s ∷ slots) bytes → AllStored slots (drop s.length bytes)
  behind s slots bytes stored = λ at t here some.
      subst (λ rest. IsStoredIn version names (take t.length rest)) (drop_first s (take at slots) bytes) (stored (suc at) t here some)

  front_and_rest : (n more : ℕ) (bytes : List ℕ) → n ≤ length bytes → take (n + more) bytes ≡ take n bytes ++ take more (drop n bytes)
  front_and_rest n more bytes within =
      ap (take (n + more)) (sym (take-append-drop n bytes)) ∙ ap (λ k. take (k + more) (take n bytes ++ drop n bytes)) (sym (length-take-le n bytes within))
      ∙ take-append-add (take n bytes) (drop n bytes) more

  cons_entries : (s : Slot) (slots : List Slot) (bytes : List ℕ) (v : Option Document) (ws : List Write) → s.length ≤ length bytes → held_bytes (row_as version names (s.key, v)).1 ≡ take s.length bytes
      → contents.IsEntry names (s.key, v) → IsShortWrite (s.key, v) → AreEntries slots (drop s.length bytes) ws → AreEntries (s ∷ slots) bytes ((s.key, v) ∷ ws)
  cons_entries s slots bytes v ws within held is short rest = record {
    slots_are = ap (λ n. slot s.key n ∷ slots_of (rows_as version names ws)) (ap length held ∙ length-take-le s.length bytes within) ∙ ap (λ ss. s ∷ ss) rest.slots_are;
    records_are = ap (λ front. front ++ records (rows_as version names ws)) held ∙ ap (λ all. take s.length bytes ++ all) rest.records_are
        ∙ sym (front_and_rest s.length (lengths_of slots) bytes within) ∙ ap (λ n. take n bytes) (first_sum s slots);
    entries = All-cons (contents.IsEntry names) (s.key, v) ws is rest.entries;
    short = All-cons IsShortWrite (s.key, v) ws short rest.short;
  }

  module _ (reads : ReadsMeant) (dictionary : IsDictionary names) where
    first_entry : (s : Slot) (slots : List Slot) (bytes : List ℕ) (ws : List Write) → IsSlot s → s.length ≤ length bytes → (0 < s.length → IsStoredIn version names (take s.length bytes)) → AreEntries slots (drop s.length bytes) ws
        → AreEntries (s ∷ slots) bytes (entry_in names s bytes ∷ ws)
    first_entry s slots bytes ws is within stored rest = by_test (s.length == 0) refl
      where
        by_test : (b : Bool) → (s.length == 0) ≡ b → AreEntries (s ∷ slots) bytes ((s.key, if b then None else document_in names (take s.length bytes)) ∷ ws)
        by_test true none =
            let zero_is : s.length ≡ 0 = eqb-true s.length 0 none in
            cons_entries s slots bytes None ws within (ap (λ n. take n bytes) (sym zero_is)) (record { key = is.key; document = tt; storable = tt; named = tt }) tt rest
        by_test false some =
            let long : 0 < s.length = grind (arith, nat_tests) in
            let its = stored long in
            let entry : contents.IsEntry names (s.key, Some its.document) = record { key = is.key; document = its.is_document; storable = its.storable; named = its.named } in
            subst (λ v. AreEntries (s ∷ slots) bytes ((s.key, v) ∷ ws)) (sym (stored_document reads version names (take s.length bytes) dictionary its))
            (cons_entries s slots bytes (Some its.document) ws within (sym its.spelled) entry its.short rest)

    entries_made : (slots : List Slot) (bytes : List ℕ) → AllByRecursion IsSlot slots → lengths_of slots ≤ length bytes → AllStored slots bytes → AreEntries slots bytes (entries_in names slots bytes)
    entries_made [] bytes each within stored = record { slots_are = refl; records_are = refl; entries = All-nil (contents.IsEntry names); short = All-nil IsShortWrite }
    entries_made (s ∷ slots) bytes each within stored =
        let sum = first_sum s slots in
        let rest = entries_made slots (drop s.length bytes) each.1 (omega (arith, within, sum, length-drop s.length bytes)) (behind s slots bytes stored) in
        first_entry s slots bytes (entries_in names slots (drop s.length bytes)) each.0 (omega (arith, within, sum)) (stored 0 s refl) rest

pub keys_in : (names : List Name) (slots : List Slot) (bytes : List ℕ) → keys_of (entries_in names slots bytes) ≡ map (λ (s : Slot). s.key) slots
keys_in names [] bytes = refl
keys_in names (s ∷ slots) bytes = ap (λ keys. s.key ∷ keys) (keys_in names slots (drop s.length bytes))

-- ---- the content of a component

-- the record of a slot, where it stands
pub record_here : (slots : List Slot) (at : ℕ) (s : Slot) (bytes : List ℕ) → slice_get slots at ≡ Some s → record_at slots at bytes ≡ take s.length (drop (lengths_of (take at slots)) (drop 61 bytes))
record_here slots at s bytes here =
    ap (λ o. take (unwrap_or (option_map (λ (t : Slot). t.length) o) 0) (drop (61 + lengths_of (take at slots)) bytes)) here ∙ ap (take s.length) (sym (drop-drop (lengths_of (take at slots)) 61 bytes))

module _ (reads : ReadsMeant) (c : Index) (bytes : List ℕ) (holds : Holds bytes c) where
  rest_is : drop 61 bytes ≡ holds.records ++ (directory c.slots ++ (section c.names ++ schema_bytes (schema_tree c.schema)))
  rest_is = ap (drop 61) holds.spelled ∙ drop_at (1 ∷ head_bytes c.version c.head (sizes_in c)) (holds.records ++ (directory c.slots ++ (section c.names ++ schema_bytes (schema_tree c.schema)))) 61 refl

  made_entries : AreStoredUpTo c bytes (length c.slots) → AreEntries c.version c.names c.slots (drop 61 bytes) (content_in c bytes).entries
  made_entries stored =
      let tail = directory c.slots ++ (section c.names ++ schema_bytes (schema_tree c.schema)) in
      entries_made c.version c.names reads holds.is.names c.slots (drop 61 bytes) holds.is.each (within tail)
      (λ at s here some. subst (IsStoredIn c.version c.names) (record_here c.slots at s bytes here) (stored at s (slice_get_within c.slots at s here) here some))
    where
      within : (tail : List ℕ) → lengths_of c.slots ≤ length (drop 61 bytes)
      within tail = let parts = ap length rest_is in omega (arith, parts, holds.sized, length-append holds.records (directory c.slots ++ (section c.names ++ schema_bytes (schema_tree c.schema))))

  pub made : AreStoredUpTo c bytes (length c.slots) → IsComponent (content_in c bytes) bytes × IsIndexOf c (content_in c bytes)
  made stored =
      let es = made_entries stored in
      let ws = (content_in c bytes).entries in
      let tail = directory c.slots ++ (section c.names ++ schema_bytes (schema_tree c.schema)) in
      let index : component_index c.version (content_in c bytes) ≡ c = ap (λ slots. record { version = c.version; head = c.head; slots = slots; names = c.names; schema = c.schema }) es.slots_are in
      let records_are : records (rows_as c.version c.names ws) ≡ holds.records = es.records_are ∙ ap (take (lengths_of c.slots)) rest_is ∙ take_at holds.records tail (lengths_of c.slots) holds.sized in (
        record {
          content = record {
            number = holds.is.head.number;
            count = holds.is.head.count;
            first = holds.is.head.first;
            order = holds.is.head.order;
            last = holds.is.head.last;
            ascends = subst (IsStrictlySortedBy nat_cmp) (sym (keys_in c.names c.slots (drop 61 bytes))) holds.is.ascend;
            entries = es.entries;
            dictionary = holds.is.names;
            schema = holds.is.schema;
          };
          records = es.short;
          spelled = holds.spelled ∙ ap (file_with c) (sym records_are) ∙ ap (λ i. file_with i (records (rows_as c.version c.names ws))) (sym index)
              ∙ ap (λ v. component_bytes_as v (content_in c bytes)) (sym (holds_version bytes c holds));
          short = holds.short;
        },
        sym index,
      )

-- ---- the other way round

-- the entry of a slot, which has a record exactly where it has a document
record IsEntryOf (version : ℕ) (names : List Name) (ws : List Write) (at : ℕ) (s : Slot) : Type 0 where
  value : Option Document
  here : slice_get ws at ≡ Some (s.key, value)
  sized : length (held_bytes (row_as version names (s.key, value)).1) ≡ s.length
  entry : contents.IsEntry names (s.key, value)
  short : IsShortWrite (s.key, value)

entry_of_slot : (version : ℕ) (names : List Name) (ws : List Write) (at : ℕ) (s : Slot) → All (contents.IsEntry names) ws → All IsShortWrite ws → slice_get (slots_of (rows_as version names ws)) at ≡ Some s → IsEntryOf version names ws at s
entry_of_slot version names [] at s each short is = absurd (cc)
entry_of_slot version names (w ∷ ws) zero s each short is =
    let same : slot w.0 (length (held_bytes (row_as version names w).1)) ≡ s = same_Some _ _ is in
    let key : w.0 ≡ s.key = ap (λ (t : Slot). t.key) same in
    record {
      value = w.1;
      here = ap (λ k. Some (k, w.1)) key;
      sized = ap (λ (t : Slot). t.length) same;
      entry = subst (λ k. contents.IsEntry names (k, w.1)) key (All-head (contents.IsEntry names) w ws each);
      short = All-head IsShortWrite w ws short;
    }
entry_of_slot version names (w ∷ ws) (suc at) s each short is =
    let rest = entry_of_slot version names ws at s (All-tail (contents.IsEntry names) w ws each) (All-tail IsShortWrite w ws short) is in
    record { value = rest.value; here = rest.here; sized = rest.sized; entry = rest.entry; short = rest.short }

-- where at the place of each document stands its record
pub stored_up_to : (c : Content) (bytes : List ℕ) (end : ℕ) → ((at key : ℕ) (d : Document) → IsComponent c bytes → slice_get c.entries at ≡ Some (set key d) → record_at (component_index (version_of bytes) c).slots at bytes ≡ record_in (version_of bytes) c.names d) → IsComponent c bytes
    → AreStoredUpTo (component_index (version_of bytes) c) bytes end
stored_up_to c bytes end fetches is = λ at s below here some.
    let e = entry_of_slot (version_of bytes) c.names c.entries at s is.content.entries is.records here in
    of_value at s some e.value e.here e.sized e.entry e.short
  where
    of_value : (at : ℕ) (s : Slot) → 0 < s.length → (v : Option Document) → slice_get c.entries at ≡ Some (s.key, v) → length (held_bytes (row_as (version_of bytes) c.names (s.key, v)).1) ≡ s.length → contents.IsEntry c.names (s.key, v) → IsShortWrite (s.key, v)
        → IsStoredIn (version_of bytes) c.names (record_at (component_index (version_of bytes) c).slots at bytes)
    of_value at s some None here sized entry short = absurd (omega (arith, some, sized))
    of_value at s some (Some d) here sized entry short =
        record { told = told_version (front_of bytes); document = d; is_document = entry.document; storable = entry.storable; named = entry.named; short = short; spelled = fetches at s.key d is here }
