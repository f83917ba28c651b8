-- Components that were loaded of the bytes of contents show these, and have their records at the places that are found.
use Rattle.std.proofs.Common.{◌≡◌, ◌∙◌, ◌<◌, ℕ, zero, suc, true, false, List, [], ◌∷◌, Option, Some, None, length, map, slice_get, refl, sym, ap, subst, arith}
use Rattle.std.specs.Prelude.{is_some}
use Rattle.std.specs.List.{AllZip}
use Rattle.std.proofs.lemmas.Bool.{lt-ltb}
use Rattle.std.proofs.lemmas.Option.{same_Some}
use Rattle.tc_model.specs.Document.{Name, Document}
use Rattle.tc_model.specs.Keyed.{on_value}
use Rattle.tc_plain_model.specs.Writes.{Write}
use Rattle.tc_lsm_model.specs.Contents.{Partition, Content}
use Rattle.tc_lsm_model.specs.Lists.{IsList}
use Rattle.tc_component.specs.declared.found.Found.{Found}
use Rattle.tc_component.specs.declared.found.Found.TheVariants.{Gone}
use Rattle.tc_component.specs.declared.found.Place.{Place}
use Rattle.tc_component.specs.Columns.{IsFound}
use Rattle.tc_component.specs.Fetching.{record_at, IsRecordWithin}
use Rattle.tc_component.specs.Loading.{ComponentState}
use Rattle.tc_component.specs.Meaning.{MeansOf, IsRecordOfOne}
use Rattle.tc_component.specs.Reading.{version_of}
use Rattle.tc_component.specs.Rows.{record_in, row_as, rows_as, component_index, IsComponent}
use Rattle.tc_component.specs.Spelling.{Index, slot, slots_of, held_bytes}
use Rattle.tc_list.specs.declared.whereabouts.Whereabouts.TheVariants.{At}
use Rattle.tc_list.specs.Contents.{marks, Shows}
use Rattle.tc_component.specs.Loaded.{IsLoadedOf}
use Rattle.tc_list.specs.Loaded.{HoldsLive}
use Rattle.tc_list.specs.Lookups.{IsWhere}
use Rattle.tc_list.proofs.KeyedPlaces.{value_of-at}
use Rattle.tc_list.proofs.Shown.{where_live}

-- what a component has of a key is what its content has of it
abbrev pub FindsContent : Type 0
FindsContent = (c : Content) (bytes : List ℕ) (key : ℕ) (found : Found) → IsComponent c bytes → IsFound (component_index (version_of bytes) c).slots key found → MeansOf c.entries key found

-- ---- one component

slot_there : (version : ℕ) (names : List Name) (ws : List Write) (at : ℕ) (w : Write) → slice_get ws at ≡ Some w → slice_get (slots_of (rows_as version names ws)) at ≡ Some (slot w.0 (length (held_bytes (row_as version names w).1)))
slot_there version names [] at w here = absurd (cc)
slot_there version names (v ∷ ws) zero w here = ap (λ (o : Write). Some (slot o.0 (length (held_bytes (row_as version names o).1)))) (same_Some v w here)
slot_there version names (v ∷ ws) (suc at) w here = slot_there version names ws at w here

-- what has a slot without bytes is gone
some_bytes : FindsContent → (c : Content) (bytes : List ℕ) (at key : ℕ) (d : Document) → IsComponent c bytes → slice_get c.entries at ≡ Some (key, Some d) → 0 < length (record_in (version_of bytes) c.names d)
some_bytes finds c bytes at key d is here = cases (length (record_in (version_of bytes) c.names d)) refl
  where
    cases : (n : ℕ) → length (record_in (version_of bytes) c.names d) ≡ n → 0 < length (record_in (version_of bytes) c.names d)
    cases zero none =
        let gone : slice_get (component_index (version_of bytes) c).slots at ≡ Some (slot key 0) = slot_there (version_of bytes) c.names c.entries at (key, Some d) here ∙ ap (λ n. Some (slot key n)) none in
        let two : Some None ≡ Some (Some d) = sym (finds c bytes key Gone is (at, gone)) ∙ value_of-at c.entries at (key, Some d) is.content.ascends here in
        absurd (cc)
    cases (suc n) some = omega (arith, some)

pub marks_are : (version : ℕ) (names : List Name) (ws : List Write) → ((at key : ℕ) (d : Document) → slice_get ws at ≡ Some (key, Some d) → 0 < length (record_in version names d)) → marks (slots_of (rows_as version names ws)) ≡ map (on_value is_some) ws
marks_are version names [] some = refl
marks_are version names ((key, None) ∷ ws) some = ap (λ rest. (key, false) ∷ rest) (marks_are version names ws (λ at. some (suc at)))
marks_are version names ((key, Some d) ∷ ws) some =
    ap (λ mark. (key, mark) ∷ marks (slots_of (rows_as version names ws))) (lt-ltb 0 (length (record_in version names d)) (some 0 key d refl)) ∙ ap (λ rest. (key, true) ∷ rest) (marks_are version names ws (λ at. some (suc at)))

shows : {F : Type 0} (told : F → Option (List ℕ)) → FindsContent → (m : ComponentState F) (c : Content) → IsLoadedOf told m c → Shows m c
shows told finds m c l =
    subst (λ (i : Index). marks i.slots ≡ map (on_value is_some) c.entries) (sym l.index) (marks_are (version_of l.bytes) c.names c.entries (λ at key d here. some_bytes finds c l.bytes at key d l.is here))

-- ---- a list

pub all_show : {F : Type 0} (told : F → Option (List ℕ)) → FindsContent → (ms : List (ComponentState F)) (cs : List Content) → AllZip (IsLoadedOf told) ms cs → AllZip Shows ms cs
all_show told finds [] [] all = tt
all_show told finds [] (c ∷ cs) all = absurd all
all_show told finds (m ∷ ms) [] all = absurd all
all_show told finds (m ∷ ms) (c ∷ cs) all = (shows told finds m c all.0, all_show told finds ms cs all.1)

loaded_at : {F : Type 0} (told : F → Option (List ℕ)) (ms : List (ComponentState F)) (cs : List Content) (at : ℕ) (m : ComponentState F) (c : Content) → AllZip (IsLoadedOf told) ms cs
    → slice_get ms at ≡ Some m → slice_get cs at ≡ Some c → IsLoadedOf told m c
loaded_at told [] cs at m c all here there = absurd (cc)
loaded_at told (x ∷ ms) [] at m c all here there = absurd (cc)
loaded_at told (x ∷ ms) (y ∷ cs) zero m c all here there = subst (λ z. IsLoadedOf told z c) (same_Some x m here) (subst (IsLoadedOf told x) (same_Some y c there) all.0)
loaded_at told (x ∷ ms) (y ∷ cs) (suc at) m c all here there = loaded_at told ms cs at m c all.1 here there

-- ---- what is fetched

-- the record of an entry, as a component has it
pub record Records (c : Content) (bytes : List ℕ) (at : ℕ) (d : Document) : Type 0 where
  pub there : record_at (component_index (version_of bytes) c).slots at bytes ≡ record_in (version_of bytes) c.names d
  pub one : IsRecordOfOne (version_of bytes) c.names d (record_in (version_of bytes) c.names d)
  pub within : IsRecordWithin (version_of bytes) (length c.names) (record_in (version_of bytes) c.names d)

abbrev pub HasRecords : Type 0
HasRecords = (c : Content) (bytes : List ℕ) (at key : ℕ) (d : Document) → IsComponent c bytes → slice_get c.entries at ≡ Some (key, Some d) → Records c bytes at d

pub holds_live : {F : Type 0} (told : F → Option (List ℕ)) → FindsContent → HasRecords → (part : Partition) (ms : List (ComponentState F)) (cs : List Content) (key at : ℕ) (place : Place)
    → IsList part cs → AllZip (IsLoadedOf told) ms cs → IsWhere ms key (At at place) → HoldsLive told ms cs key at place
holds_live told finds has part ms cs key at place is all n =
    let w = where_live part ms cs key (At at place) is (all_show told finds ms cs all) n in
    let c = w.0 in
    let d = w.1 in
    let l = loaded_at told ms cs at n.component c all n.here w.2 in
    let r = has c l.bytes place.at key d l.is w.3 in
    record {
      component = n.component;
      here = n.here;
      place_is = (key, n.has);
      document = d;
      live_is = w.4;
      bytes = l.bytes;
      tells = l.tells;
      record_is = subst (λ (i : Index). IsRecordOfOne i.version i.names d (record_at i.slots place.at l.bytes)) (sym l.index) (subst (IsRecordOfOne (version_of l.bytes) c.names d) (sym r.there) r.one);
      within = subst (λ (i : Index). IsRecordWithin i.version (length i.names) (record_at i.slots place.at l.bytes)) (sym l.index) (subst (IsRecordWithin (version_of l.bytes) (length c.names)) (sym r.there) r.within);
    }
