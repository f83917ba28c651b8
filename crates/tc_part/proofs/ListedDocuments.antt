-- The document of a key that is found in a list of components.
use Rattle.std.proofs.Common.{◌≡◌, ◌∙◌, ℕ, zero, suc, List, [], ◌∷◌, Option, Some, None, slice_get, refl, sym, subst}
use Rattle.std.specs.Prelude.{IfSome}
use Rattle.std.proofs.lemmas.List.Elements.{All-head, All-tail}
use Rattle.std.proofs.lemmas.Option.{same_Some}
use Rattle.tc_model.specs.Document.{Document}
use Rattle.tc_model.specs.Keyed.{value_of}
use Rattle.tc_store.specs.Counted.{Counts, IsCountedOnce}
use Rattle.tc_component.specs.Columns.{IsFound}
use Rattle.tc_component.specs.declared.found.Place.{Place}
use Rattle.tc_component.specs.declared.found.Found.TheVariants.{Absent as NotFound}
use Rattle.tc_component.specs.Fetching.{IsPlace, record_at}
use Rattle.tc_component.specs.Loading.{ComponentState}
use Rattle.tc_component.specs.Meaning.{IsRecordOfOne}
use Rattle.tc_lsm_model.specs.Contents.{Content}
use Rattle.tc_lsm_model.specs.Lists.{live}
use Rattle.tc_list.specs.Loaded.{HoldsLive}
use Rattle.tc_list.specs.Lookups.{HaveNone}
use Rattle.tc_list.specs.declared.whereabouts.Whereabouts.TheVariants.{At}
use Rattle.tc_part.specs.Below.{IsFoundAt}
use Rattle.tc_part.specs.Reads.{IsCountedLookup}

-- the component at the place that was found has the entry
pub found_place : {F : Type 0} (cs : List (ComponentState F)) (key n : ℕ) (place : Place) (m : ComponentState F) → IsFoundAt cs key (At n place) → slice_get cs n ≡ Some m → IsPlace m.index.slots place
found_place cs key n place m found here =
    let newest = found.newest in
    subst (λ (c : ComponentState _). IsPlace c.index.slots place) (same_Some newest.component m (sym newest.here ∙ here)) (key, newest.has)

if_told : (o : Option (List ℕ)) (bytes : List ℕ) (P : List ℕ → Type 0) → o ≡ Some bytes → IfSome o P → P bytes
if_told None bytes P is p = absurd (cc)
if_told (Some x) bytes P is p = subst P (same_Some x bytes is) p

-- what is so of each document that the record at the place is the only one of, is so of the live one
pub live_document : {F : Type 0} (told : F → Option (List ℕ)) (cs : List (ComponentState F)) (contents : List Content) (key n : ℕ) (place : Place) (m : ComponentState F) (Q : Document → Type 0) → HoldsLive told cs contents key n place
    → slice_get cs n ≡ Some m → ((d : Document) → IfSome (told m.file) (λ whole. IsRecordOfOne m.index.version m.index.names d (record_at m.index.slots place.at whole) → Q d)) → (d : Document) × (value_of key (live contents) ≡ Some d) × Q d
live_document told cs contents key n place m Q h here each =
    let same : h.component ≡ m = same_Some h.component m (sym h.here ∙ here) in
    let d = h.document in
    let one = subst (λ (c : ComponentState _). IsRecordOfOne c.index.version c.index.names d (record_at c.index.slots place.at h.bytes)) same h.record_is in
    let tells = subst (λ (c : ComponentState _). told c.file ≡ Some h.bytes) same h.tells in
    (d, h.live_is, if_told (told m.file) h.bytes (λ whole. IsRecordOfOne m.index.version m.index.names d (record_at m.index.slots place.at whole) → Q d) tells (each d) one)

-- ---- how the read is counted

none_at : {F : Type 0} (cs : List (ComponentState F)) (key n : ℕ) (m : ComponentState F) → HaveNone cs key → slice_get cs n ≡ Some m → IsFound m.index.slots key NotFound
none_at [] key n m none here = absurd (cc)
none_at (c ∷ cs) key zero m none here = subst (λ (c : ComponentState _). IsFound c.index.slots key NotFound) (same_Some c m here) (All-head (λ (c : ComponentState _). IsFound c.index.slots key NotFound) c cs none)
none_at (c ∷ cs) key (suc n) m none here = none_at cs key n m (All-tail (λ (c : ComponentState _). IsFound c.index.slots key NotFound) c cs none) here

has_some : {F : Type 0} (cs : List (ComponentState F)) (key n : ℕ) (place : Place) → IsFoundAt cs key (At n place) → HaveNone cs key → ⊥
has_some cs key n place found none =
    let newest = found.newest in
    let has = newest.has in
    none_at cs key n newest.component none newest.here place.at _ has.1 refl

pub looked_up : {F : Type 0} (cs : List (ComponentState F)) (key n : ℕ) (place : Place) (Failed Done Fails : Type 0) (old new : Counts) → IsFoundAt cs key (At n place) → (Fails → Failed) → IsCountedOnce Failed Done old new
    → IsCountedLookup Fails (HaveNone cs key) old new
looked_up cs key n place Failed Done Fails old new found fails counted =
    record {
      once = record { faults = counted.faults; cause = λ f. counted.cause (fails f); done = λ no. absurd no; reads = counted.reads };
      none = λ none. absurd (has_some cs key n place found none);
    }
