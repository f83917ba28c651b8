-- What a key has below the active table, by where that is.
use Rattle.std.proofs.Common.{◌≡◌, ◌∙◌, ℕ, Bool, true, false, List, Option, Some, None, inl, inr, is_some, ◌<◌, ◌^◌, length, refl, sym, ap, subst}
use Rattle.std.specs.Prelude.{option_map}
use Rattle.std.specs.List.{AllZip}
use Rattle.std.proofs.lemmas.Option.{same_Some}
use Rattle.tc_model.specs.Document.{Document, document_shape}
use Rattle.tc_model.specs.Keyed.{value_of}
use Rattle.tc_model.proofs.StoredDocuments.{keyless_object}
use Rattle.tc_record.specs.Record.{record_of, IsRecordOf}
use Rattle.tc_record.specs.StoredRecord.{IsStoredRecord}
use Rattle.tc_memory.specs.Table as memory
use Rattle.tc_component.specs.declared.found.Place.{Place}
use Rattle.tc_component.specs.Loading.{ComponentState}
use Rattle.tc_lsm_model.specs.Lists.{live}
use Rattle.tc_list.specs.Contents.{Shows}
use Rattle.tc_list.specs.declared.whereabouts.Whereabouts.{Whereabouts}
use Rattle.tc_list.specs.declared.whereabouts.Whereabouts.TheVariants as list
use Rattle.tc_part_model.specs.Meaning.{IsPart}
use Rattle.tc_part_model.specs.PartState.{Told}
use Rattle.tc_part_model.specs.PartView.{PartView, below_of, stored_with}
use Rattle.tc_part_model.specs.Staging.{IsHeldAs}
use Rattle.tc_part_model.proofs.HeldKeys as keys
use Rattle.tc_part.specs.declared.below.Below.{Below}
use Rattle.tc_part.specs.declared.below.Below.TheVariants.{Absent, Sealed, Listed}
use Rattle.tc_part.specs.Below.{held_at, sealed_held, below_held, below_listed, is_document, is_live, is_there, IsFoundAt, IsBelow, ShowsLiveBy, newer_held, newest_held}

-- ---- where it is

pub listed : {F : Type 0} (sealed : Option memory.Table) (cs : List (ComponentState F)) (key n : ℕ) (place : Place) → IsBelow sealed cs key (Listed n place) → (sealed_held key sealed ≡ None) × IsFoundAt cs key (list.At n place)
listed sealed cs key n place (inl is) = held is.0 is.2
  where
    held : (h : memory.Held) → Listed n place ≡ below_held h → (sealed_held key sealed ≡ None) × IsFoundAt cs key (list.At n place)
    held memory.gone same = absurd (cc)
    held (memory.live bytes) same = absurd (cc)
listed sealed cs key n place (inr is) = (is.1, at is.0 is.2 is.3)
  where
    at : (w : Whereabouts) → IsFoundAt cs key w → Listed n place ≡ below_listed w → IsFoundAt cs key (list.At n place)
    at list.Absent found same = absurd (cc)
    at (list.At m q) found same = let there : list.At m q ≡ list.At n place = cc in subst (λ w. IsFoundAt cs key w) there found

pub in_sealed : {F : Type 0} (sealed : Option memory.Table) (cs : List (ComponentState F)) (key : ℕ) → IsBelow sealed cs key Sealed → (bytes : List ℕ) × (sealed_held key sealed ≡ Some (memory.live bytes))
in_sealed sealed cs key (inl is) = held is.0 is.1 is.2
  where
    held : (h : memory.Held) → sealed_held key sealed ≡ Some h → Sealed ≡ below_held h → (bytes : List ℕ) × (sealed_held key sealed ≡ Some (memory.live bytes))
    held memory.gone some same = absurd (cc)
    held (memory.live bytes) some same = (bytes, some)
in_sealed sealed cs key (inr is) = at is.0 is.3
  where
    at : (w : Whereabouts) → Sealed ≡ below_listed w → (bytes : List ℕ) × (sealed_held key sealed ≡ Some (memory.live bytes))
    at list.Absent same = absurd (cc)
    at (list.At m q) same = absurd (cc)

pub held_once : (sealed : Option memory.Table) (key : ℕ) (bytes : List ℕ) → sealed_held key sealed ≡ None → sealed_held key sealed ≡ Some (memory.live bytes) → ⊥
held_once sealed key bytes none some = let both : None ≡ Some (memory.live bytes) = sym none ∙ some in cc

pub not_absent : {F : Type 0} (sealed : Option memory.Table) (cs : List (ComponentState F)) (key : ℕ) (bytes : List ℕ) → IsBelow sealed cs key Absent → sealed_held key sealed ≡ Some (memory.live bytes) → ⊥
not_absent sealed cs key bytes (inl is) some = held is.0 is.1 is.2
  where
    held : (h : memory.Held) → sealed_held key sealed ≡ Some h → Absent ≡ below_held h → ⊥
    held memory.gone found same = let both : Some memory.gone ≡ Some (memory.live bytes) = sym found ∙ some in cc
    held (memory.live other) found same = cc
not_absent sealed cs key bytes (inr is) some = held_once sealed key bytes is.1 some

-- ---- what a table holds of a key

held_entry : (key : ℕ) (table : memory.Table) (held : memory.Held) → held_at key table ≡ Some held → (k : memory.Kept) × (value_of key table ≡ Some k) × (k.held ≡ held)
held_entry key table held some = at (value_of key table) refl some
  where
    at : (o : Option memory.Kept) → value_of key table ≡ o → option_map (λ k. k.held) o ≡ Some held → (k : memory.Kept) × (value_of key table ≡ Some k) × (k.held ≡ held)
    at None same some = absurd (cc)
    at (Some k) same some = (k, same, same_Some k.held held some)

no_entry : (key : ℕ) (table : memory.Table) → held_at key table ≡ None → value_of key table ≡ None
no_entry key table none = at (value_of key table) refl none
  where
    at : (o : Option memory.Kept) → value_of key table ≡ o → option_map (λ k. k.held) o ≡ None → value_of key table ≡ None
    at None same none = same
    at (Some k) same none = absurd (cc)

as_gone : (o : Option Document) → IsHeldAs memory.gone o → o ≡ None
as_gone None is = refl
as_gone (Some d) is = absurd is

as_live : (bytes : List ℕ) (o : Option Document) → IsHeldAs (memory.live bytes) o → (d : Document) × (o ≡ Some d) × (bytes ≡ record_of d)
as_live bytes None is = absurd is
as_live bytes (Some d) is = (d, refl, is)

-- the bytes are the record of this document of the key
abbrev pub IsRecordAt : ℕ → List ℕ → Option Document → Type 0
IsRecordAt key bytes o = (d : Document) × (o ≡ Some d) × IsRecordOf d bytes

short : (bytes : List ℕ) → IsStoredRecord bytes → length bytes < 2 ^ 32
short bytes stored = stored.is_record.short

-- ---- of a part

module _ (t : Told) (p : PartView) (is : IsPart t p) (key : ℕ) where
  held_sealed : (held : memory.Held) → sealed_held key t.sealed ≡ Some held → IsHeldAs held (value_of key (below_of p))
  held_sealed held some = at t.sealed refl some
    where
      at : (o : Option memory.Table) → t.sealed ≡ o → sealed_held key o ≡ Some held → IsHeldAs held (value_of key (below_of p))
      at None same some = absurd (cc)
      at (Some table) same some =
          let k = held_entry key table held some in
          subst (λ h. IsHeldAs h (value_of key (below_of p))) k.2 (keys.sealed_held t p is key table k.0 same k.1)

  pub not_sealed : sealed_held key t.sealed ≡ None → value_of key (below_of p) ≡ value_of key (live p.list)
  not_sealed none = at t.sealed refl none
    where
      at : (o : Option memory.Table) → t.sealed ≡ o → sealed_held key o ≡ None → value_of key (below_of p) ≡ value_of key (live p.list)
      at None same none = ap (value_of key) (keys.unsealed t p is same)
      at (Some table) same none = keys.sealed_absent t p is key table same (no_entry key table none)

  pub record_sealed : (bytes : List ℕ) → sealed_held key t.sealed ≡ Some (memory.live bytes) → IsStoredRecord bytes → IsRecordAt key bytes (value_of key (below_of p))
  record_sealed bytes some stored = at t.sealed refl some
    where
      at : (o : Option memory.Table) → t.sealed ≡ o → sealed_held key o ≡ Some (memory.live bytes) → IsRecordAt key bytes (value_of key (below_of p))
      at None same some = absurd (cc)
      at (Some table) same some =
          let k = held_entry key table (memory.live bytes) some in
          let d = as_live bytes (value_of key (below_of p)) (held_sealed (memory.live bytes) (ap (sealed_held key) same ∙ some)) in
          let lawful = keys.sealed_stored t p is key table k.0 d.0 same k.1 d.1 in
          (d.0, d.1, record { document = lawful.0; is_object = keyless_object d.0 lawful.1.1; shallow = lawful.1.0; spelled = d.2; short = short bytes stored })

  module _ {F : Type 0} (cs : List (ComponentState F)) (shown : AllZip Shows cs p.list) where
    found_listed : (w : Whereabouts) → IsFoundAt cs key w → sealed_held key t.sealed ≡ None → is_there (below_listed w) ≡ is_some (value_of key (below_of p))
    found_listed list.Absent found none = rw (not_sealed none, found.live p.part p.list is.memory.list shown) refl
    found_listed (list.At n place) found none = let there = found.live p.part p.list is.memory.list shown in rw (not_sealed none, there.4) refl

    pub below_there : (below : Below) → IsBelow t.sealed cs key below → is_there below ≡ is_some (value_of key (below_of p))
    below_there below (inl found) = held found.0 found.1 found.2
      where
        held : (h : memory.Held) → sealed_held key t.sealed ≡ Some h → below ≡ below_held h → is_there below ≡ is_some (value_of key (below_of p))
        held memory.gone some same = rw (same, as_gone (value_of key (below_of p)) (held_sealed memory.gone some)) refl
        held (memory.live bytes) some same = rw (same, (as_live bytes (value_of key (below_of p)) (held_sealed (memory.live bytes) some)).1) refl
    below_there below (inr found) = ap is_there found.3 ∙ found_listed found.0 found.2 found.1

-- where nothing is, there is no shape
pub no_shape : (o : Option Document) → false ≡ is_some o → None ≡ option_map document_shape o
no_shape None is = refl
no_shape (Some d) is = absurd (cc)

pub nothing : (o : Option Document) → false ≡ is_some o → None ≡ o
nothing None is = refl
nothing (Some d) is = absurd (cc)

pub a_shape : (o : Option Document) (d : Document) → o ≡ Some d → Some (document_shape d) ≡ option_map document_shape o
a_shape o d is = rw is refl

-- a table holds one record of a key
pub same_record : (o : Option memory.Held) (one other : List ℕ) → Some (memory.live one) ≡ o → o ≡ Some (memory.live other) → one ≡ other
same_record o one other is some = let same : Some (memory.live one) ≡ Some (memory.live other) = is ∙ some in cc

-- ---- whether a key has a document

is_held : (held : memory.Held) (o : Option Document) → IsHeldAs held o → is_document held ≡ is_some o
is_held memory.gone None is = refl
is_held memory.gone (Some d) is = absurd is
is_held (memory.live bytes) None is = absurd is
is_held (memory.live bytes) (Some d) is = refl

-- what tables and directories show is so of what is stored
pub live_there : {F : Type 0} (t : Told) (p : PartView) (key : ℕ) (cs : List (ComponentState F)) (below : Below) → IsPart t p → AllZip Shows cs p.list → IsBelow t.sealed cs key below
    → is_live (held_at key t.active) below ≡ is_some (value_of key (stored_with p))
live_there t p key cs below is shown found = at (value_of key t.active) refl
  where
    at : (o : Option memory.Kept) → value_of key t.active ≡ o → is_live (option_map (λ k. k.held) o) below ≡ is_some (value_of key (stored_with p))
    at None same = below_there t p is key cs shown below found ∙ ap (λ o. is_some o) (sym (keys.active_absent t p is key same))
    at (Some k) same = is_held k.held (value_of key (stored_with p)) (keys.active_held t p is key k same)

pub shows_live : {F : Type 0} (o : Option memory.Held) (sealed : Option memory.Table) (cs : List (ComponentState F)) (key : ℕ) (below : Below) (live : Bool) → IsBelow sealed cs key below → live ≡ is_live o below
    → ShowsLiveBy o sealed cs key live
shows_live None sealed cs key below live found is = (below, found, is)
shows_live (Some held) sealed cs key below live found is = is

-- ---- the document of a key

absent : (o : Option memory.Kept) → is_some o ≡ false → o ≡ None
absent None is = refl
absent (Some k) is = absurd (cc)

pub none_held : (key : ℕ) (table : memory.Table) → is_some (value_of key table) ≡ false → held_at key table ≡ None
none_held key table none = ap (option_map (λ k. k.held)) (absent (value_of key table) none)

no_document : {A : Type 0} (o : Option A) → Some (is_some o) ≡ Some false → o ≡ None
no_document None is = refl
no_document (Some d) is = absurd (cc)

-- what is found in the active table is what is stored
module _ (t : Told) (p : PartView) (is : IsPart t p) (key : ℕ) where
  pub active_live : (live : Bool) → Some live ≡ option_map is_document (held_at key t.active) → live ≡ is_some (value_of key (stored_with p))
  active_live live there = at (value_of key t.active) refl there
    where
      at : (o : Option memory.Kept) → value_of key t.active ≡ o → Some live ≡ option_map is_document (option_map (λ k. k.held) o) → live ≡ is_some (value_of key (stored_with p))
      at None same there = absurd (cc)
      at (Some k) same there = same_Some live (is_document k.held) there ∙ is_held k.held (value_of key (stored_with p)) (keys.active_held t p is key k same)

  -- what is read of the record that the active table holds is read of the document that is stored
  pub active_read : {A : Type 0} (f : Document → A) (o : Option A) → Some (is_some o) ≡ option_map is_document (held_at key t.active)
      → ((d : Document) (bytes : List ℕ) → held_at key t.active ≡ Some (memory.live bytes) → IsRecordOf d bytes → o ≡ Some (f d)) → ((bytes : List ℕ) → held_at key t.active ≡ Some (memory.live bytes) → IsStoredRecord bytes)
      → o ≡ option_map f (value_of key (stored_with p))
  active_read f o there spelled stored = at (value_of key t.active) refl there
    where
      held : (h : memory.Held) (k : memory.Kept) → value_of key t.active ≡ Some k → k.held ≡ h → Some (is_some o) ≡ Some (is_document h) → o ≡ option_map f (value_of key (stored_with p))
      held memory.gone k same holds there =
          no_document o there ∙ sym (ap (option_map f) (as_gone (value_of key (stored_with p)) (subst (λ h. IsHeldAs h (value_of key (stored_with p))) holds (keys.active_held t p is key k same))))
      held (memory.live bytes) k same holds there =
          let found : held_at key t.active ≡ Some (memory.live bytes) = ap (option_map (λ k. k.held)) same ∙ ap Some holds in
          let d = as_live bytes (value_of key (stored_with p)) (subst (λ h. IsHeldAs h (value_of key (stored_with p))) holds (keys.active_held t p is key k same)) in
          let lawful = keys.active_stored t p is key k d.0 same d.1 in
          spelled d.0 bytes found (record { document = lawful.0; is_object = keyless_object d.0 lawful.1.1; shallow = lawful.1.0; spelled = d.2; short = short bytes (stored bytes found) }) ∙ sym (ap (option_map f) d.1)

      at : (x : Option memory.Kept) → value_of key t.active ≡ x → Some (is_some o) ≡ option_map is_document (option_map (λ k. k.held) x) → o ≡ option_map f (value_of key (stored_with p))
      at None same there = absurd (cc)
      at (Some k) same there = held k.held k same refl there

  pub stored_below : is_some (value_of key t.active) ≡ false → value_of key (stored_with p) ≡ value_of key (below_of p)
  stored_below none = keys.active_absent t p is key (absent (value_of key t.active) none)

pub active_shows : {F : Type 0} (o : Option memory.Held) (sealed : Option memory.Table) (cs : List (ComponentState F)) (key : ℕ) (live : Bool) → Some live ≡ option_map is_document o → ShowsLiveBy o sealed cs key live
active_shows None sealed cs key live there = absurd (cc)
active_shows (Some held) sealed cs key live there = same_Some live (is_document held) there

pub newest_active : (key : ℕ) (active : memory.Table) (sealed : Option memory.Table) (held : memory.Held) → is_some (value_of key active) ≡ true → newest_held active sealed key ≡ Some held → held_at key active ≡ Some held
newest_active key active sealed held there newest = at (value_of key active) there newest
  where
    at : (o : Option memory.Kept) → is_some o ≡ true → newer_held (option_map (λ k. k.held) o) (sealed_held key sealed) ≡ Some held → option_map (λ k. k.held) o ≡ Some held
    at None there newest = absurd (cc)
    at (Some k) there newest = newest

-- a key that the active table has is held
pub active_newest : (key : ℕ) (active : memory.Table) (sealed : Option memory.Table) → is_some (value_of key active) ≡ true → newest_held active sealed key ≡ None → ⊥
active_newest key active sealed there none = at (value_of key active) there none
  where
    at : (o : Option memory.Kept) → is_some o ≡ true → newer_held (option_map (λ k. k.held) o) (sealed_held key sealed) ≡ None → ⊥
    at None there none = cc
    at (Some k) there none = cc
