-- The component of a content is loaded again, and is that of no other content.
use Rattle.std.proofs.Common.{◌≡◌, ◌∙◌, ◌+◌, ℕ, List, [], ◌∷◌, Option, None, Some, length, take, drop, slice_get, refl, sym, ap, subst, arith}
use Rattle.std.specs.Prelude.{All}
use Rattle.std.proofs.lemmas.List.{take_at, drop_at, drop-drop}
use Rattle.std.proofs.lemmas.List.Elements.{All-head, All-tail}
use Rattle.tc_model.specs.Dictionary.{IsDictionary}
use Rattle.tc_model.specs.Document.{Name, Document}
use Rattle.tc_schema_model.specs.Counted.{Counted}
use Rattle.tc_plain_model.specs.Writes.{Write, set}
use Rattle.tc_lsm_model.specs.Contents.{Content}
use Rattle.tc_lsm_model.specs.Contents as contents
use Rattle.tc_compact.specs.Compacted.{IsCompactedIn}
use Rattle.tc_store.proofs.Judged.{same_Ok}
use Rattle.tc_component.specs.declared.head.Head.{Head}
use Rattle.tc_component.specs.declared.slot.Slot.{Slot}
use Rattle.tc_component.specs.Fetching.{length_at, record_at}
use Rattle.tc_component.specs.Reading.{front_of, version_of}
use Rattle.tc_component.specs.Rows.{record_in, row_as, rows_as, part_of, head_of, component_index, IsShortWrite, IsComponent}
use Rattle.tc_component.specs.Spelling.{IsVersion, slot, slots_of, lengths_of, held_bytes, records, Index, IsIndex, Holds, name_of, file_with}
use Rattle.tc_component.proofs.EntryPlaces.{ascend_are, record_there}
use Rattle.tc_component.proofs.EntryRecords.{kept, only, long_record, each_slot}
use Rattle.tc_component.proofs.Files.{judged_spelled, one_head, records_spelled, records_read}
use Rattle.tc_component.proofs.Versions.{told_version}
use Rattle.tc_component.proofs.Written.{records_length}

pub lawful_index : (c : Content) (bytes : List ℕ) → IsComponent c bytes → IsIndex (component_index (version_of bytes) c)
lawful_index c bytes is = record {
  version = told_version (front_of bytes);
  head = record { number = is.content.number; count = is.content.count; first = is.content.first; order = is.content.order; last = is.content.last };
  each = each_slot (version_of bytes) (told_version (front_of bytes)) c.names c.entries is.content.dictionary is.content.entries is.records;
  ascend = ascend_are (version_of bytes) c.names c.entries is.content.ascends;
  names = is.content.dictionary;
  schema = is.content.schema;
}

pub component_holds : (c : Content) (bytes : List ℕ) → IsComponent c bytes → Holds bytes (component_index (version_of bytes) c)
component_holds c bytes is =
    let lawful = lawful_index c bytes is in
    let rows = rows_as (version_of bytes) c.names c.entries in
    record { is = lawful; records = records rows; sized = sym (records_length rows); spelled = is.spelled; short = is.short }

-- ---- no other content

module _ (version : ℕ) (told : IsVersion version) where
  one_value : (names : List Name) (key : ℕ) (v w : Option Document) → IsDictionary names → contents.IsEntry names (key, v) → IsShortWrite (key, v) → contents.IsEntry names (key, w) → IsShortWrite (key, w)
      → held_bytes (row_as version names (key, v)).1 ≡ held_bytes (row_as version names (key, w)).1 → v ≡ w
  one_value names key None None dictionary is short is_w short_w same = refl
  one_value names key None (Some e) dictionary is short is_w short_w same = absurd (omega (arith, ap length same, long_record version told names e (kept version told names key e dictionary is_w short_w)))
  one_value names key (Some d) None dictionary is short is_w short_w same = absurd (omega (arith, ap length same, long_record version told names d (kept version told names key d dictionary is short)))
  one_value names key (Some d) (Some e) dictionary is short is_w short_w same =
      let k = kept version told names key e dictionary is_w short_w in
      let all = only version told names d (kept version told names key d dictionary is short) in
      ap Some (sym (all.one e _ k.whole (version, (told, subst (IsCompactedIn version names e) (sym same) k.compact))))

  pub one_entries : (names : List Name) (ws vs : List Write) → IsDictionary names → All (contents.IsEntry names) ws → All IsShortWrite ws → All (contents.IsEntry names) vs → All IsShortWrite vs
      → slots_of (rows_as version names ws) ≡ slots_of (rows_as version names vs) → records (rows_as version names ws) ≡ records (rows_as version names vs) → ws ≡ vs
  one_entries names [] [] dictionary is short is_v short_v slots bytes = refl
  one_entries names [] (v ∷ vs) dictionary is short is_v short_v slots bytes = absurd (cc)
  one_entries names (w ∷ ws) [] dictionary is short is_v short_v slots bytes = absurd (cc)
  one_entries names (w ∷ ws) (v ∷ vs) dictionary is short is_v short_v slots bytes =
      let first : slot w.0 (length (held_bytes (row_as version names w).1)) ≡ slot v.0 (length (held_bytes (row_as version names v).1)) = cc in
      let rest : slots_of (rows_as version names ws) ≡ slots_of (rows_as version names vs) = cc in
      let key : w.0 ≡ v.0 = ap (λ (s : Slot). s.key) first in
      let own = held_bytes (row_as version names w).1 in
      let own_v = held_bytes (row_as version names v).1 in
      let long : length own ≡ length own_v = ap (λ (s : Slot). s.length) first in
      let held : own ≡ own_v = sym (take_at own (records (rows_as version names ws)) (length own_v) long) ∙ ap (take (length own_v)) bytes ∙ take_at own_v (records (rows_as version names vs)) (length own_v) refl in
      let behind : records (rows_as version names ws) ≡ records (rows_as version names vs) =
      sym (drop_at own (records (rows_as version names ws)) (length own_v) long) ∙ ap (drop (length own_v)) bytes ∙ drop_at own_v (records (rows_as version names vs)) (length own_v) refl in
      let here = subst (λ (k : ℕ). contents.IsEntry names (k, w.1)) key (All-head (contents.IsEntry names) w ws is) in
      let value : w.1 ≡ v.1 = one_value names v.0 w.1 v.1 dictionary here (All-head IsShortWrite w ws short) (All-head (contents.IsEntry names) v vs is_v) (All-head IsShortWrite v vs short_v) held in
      let more = one_entries names ws vs dictionary (All-tail (contents.IsEntry names) w ws is) (All-tail IsShortWrite w ws short) (All-tail (contents.IsEntry names) v vs is_v) (All-tail IsShortWrite v vs short_v) rest behind in
      ap (λ (k : ℕ). (k, w.1) ∷ ws) key ∙ ap (λ (x : Option Document). (v.0, x) ∷ ws) value ∙ ap (λ (es : List Write). v ∷ es) more

content_by : (head : Head) (entries : List Write) (names : List Name) (schema : Counted) → Content
content_by head entries names schema = record { part = part_of head; from = head.from; to = head.to; entries = entries; names = names; schema = schema }

pub one_content : (c d : Content) (bytes : List ℕ) → IsComponent c bytes → IsComponent d bytes → c ≡ d
unfolding content_by
one_content c d bytes is is_d =
    let v = version_of bytes in
    let one = component_holds c bytes is in
    let two = component_holds d bytes is_d in
    let head : head_of c ≡ head_of d = one_head bytes (component_index v c) (component_index v d) one two in
    let index : component_index v c ≡ component_index v d =
    same_Ok (component_index v c) (component_index v d) (sym (judged_spelled (name_of (head_of c)) bytes (component_index v c) one refl) ∙ judged_spelled (name_of (head_of c)) bytes (component_index v d) two (ap name_of head)) in
    let names : c.names ≡ d.names = ap (λ (i : Index). i.names) index in
    let schema : c.schema ≡ d.schema = ap (λ (i : Index). i.schema) index in
    let rows : rows_as v d.names d.entries ≡ rows_as v c.names d.entries = ap (λ (ns : List Name). rows_as v ns d.entries) (sym names) in
    let slots : slots_of (rows_as v c.names c.entries) ≡ slots_of (rows_as v c.names d.entries) = ap (λ (i : Index). i.slots) index ∙ ap slots_of rows in
    let all : records (rows_as v c.names c.entries) ≡ records (rows_as v d.names d.entries) =
    sym (records_read (component_index v c) (records (rows_as v c.names c.entries)) bytes is.spelled (sym (records_length (rows_as v c.names c.entries))))
    ∙ ap (λ (i : Index). take (lengths_of i.slots) (drop 61 bytes)) index
    ∙ records_read (component_index v d) (records (rows_as v d.names d.entries)) bytes is_d.spelled (sym (records_length (rows_as v d.names d.entries))) in
    let entries : c.entries ≡ d.entries =
    one_entries v (told_version (front_of bytes)) c.names c.entries d.entries is.content.dictionary is.content.entries is.records (subst (λ (ns : List Name). All (contents.IsEntry ns) d.entries) (sym names) is_d.content.entries) is_d.records slots (all ∙ ap records rows) in
    ap (λ (h : Head). content_by h c.entries c.names c.schema) head ∙ ap (λ (es : List Write). content_by (head_of d) es c.names c.schema) entries
    ∙ ap (λ (ns : List Name). content_by (head_of d) d.entries ns c.schema) names ∙ ap (content_by (head_of d) d.entries d.names) schema

-- ---- what is fetched

pub fetched : (c : Content) (bytes : List ℕ) (at key : ℕ) (d : Document) → IsComponent c bytes → slice_get c.entries at ≡ Some (set key d) → record_at (component_index (version_of bytes) c).slots at bytes ≡ record_in (version_of bytes) c.names d
fetched c bytes at key d is here =
    let index = component_index (version_of bytes) c in
    let rows = rows_as (version_of bytes) c.names c.entries in
    ap (λ (all : List ℕ). take (length_at index.slots at) (drop (61 + lengths_of (take at index.slots)) all)) is.spelled
    ∙ ap (take (length_at index.slots at)) (sym (drop-drop (lengths_of (take at index.slots)) 61 (file_with index (records rows)))
    ∙ ap (drop (lengths_of (take at index.slots))) (records_spelled index (records rows)))
    ∙ record_there (version_of bytes) c.names c.entries _ at key d here
