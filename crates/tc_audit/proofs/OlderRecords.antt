-- The record of what was live of a key in components that are right.
use Rattle.std.proofs.Common.{◌≡◌, ◌∙◌, ◌+◌, ◌==◌, ℕ, zero, suc, Bool, true, false, if◌then◌else◌, List, [], ◌∷◌, ◌++◌, Option, Some, slice_get, sym, ap, subst, arith}
use Rattle.std.specs.List.{AllZip}
use Rattle.std.proofs.lemmas.Option.{same_Some}
use Rattle.tc_model.specs.Dictionary.{Extends, IsDictionary}
use Rattle.tc_model.specs.Document.{Name, Document, document_shape}
use Rattle.tc_model.specs.Keyed.{value_of, values_in}
use Rattle.tc_plain_model.specs.Writes.{Pairs}
use Rattle.tc_schema_model.specs.Counted.{Counted}
use Rattle.tc_schema_model.specs.Fits.{FitsByPath}
use Rattle.tc_schema_model.specs.Stands.{StandsFor}
use Rattle.tc_schema_model.proofs.FitLaws.{document_fits}
use Rattle.tc_lsm_model.specs.Contents.{Partition, Content}
use Rattle.tc_lsm_model.specs.Lists.{live}
use Rattle.tc_record.specs.Record.{record_of}
use Rattle.tc_compact.specs.Compacted.{IsCompactedIn}
use Rattle.tc_component.specs.declared.found.Place.{Place}
use Rattle.tc_component.specs.Fetching.{record_at}
use Rattle.tc_component.specs.Loaded.{IsLoadedOf}
use Rattle.tc_component.specs.Loading.{ComponentState}
use Rattle.tc_component.specs.Spelling.{Index, slot}
use Rattle.tc_list.specs.Loaded.{HoldsLive}
use Rattle.tc_audit.specs.Reasons.{AreRight}
use Rattle.tc_audit.specs.Stored.{IsStoredIn}
use Rattle.tc_audit.specs.Told.{AreStoredUpTo}
use Rattle.tc_audit.specs.Walking.{AreInFront, IsStoredAt}
use Rattle.tc_audit.proofs.RightLists.{IsStoredThroughout}
use Rattle.tc_audit.proofs.StoredLaws.{kept_in}

-- the names of each component stand in front
pub front_at : {F : Type 0} (names : List Name) (ms : List (ComponentState F)) (at : ℕ) (m : ComponentState F) → AreInFront ms names → slice_get ms at ≡ Some m → Extends names m.index.names
front_at names [] at m all here = absurd (cc)
front_at names (x ∷ ms) zero m all here = subst (λ (y : ComponentState _). Extends names y.index.names) (same_Some x m here) all.0
front_at names (x ∷ ms) (suc at) m all here = front_at names ms at m all.1 here

module _ {F : Type 0} (told : F → Option (List ℕ)) where
  loaded_here : (ms : List (ComponentState F)) (cs : List Content) (at : ℕ) (m : ComponentState F) → AllZip (IsLoadedOf told) ms cs → slice_get ms at ≡ Some m → (c : Content) × IsLoadedOf told m c
  loaded_here [] cs at m all here = absurd (cc)
  loaded_here (x ∷ ms) [] at m all here = absurd all
  loaded_here (x ∷ ms) (c ∷ cs) zero m all here = (c, subst (λ y. IsLoadedOf told y c) (same_Some x m here) all.0)
  loaded_here (x ∷ ms) (c ∷ cs) (suc at) m all here = loaded_here ms cs at m all.1 here

  -- what is live of a key is the document of a stored record
  pub record StoredLive (m : ComponentState F) (cs : List Content) (key at : ℕ) : Type 0 where
    pub document : Document
    pub whole : List ℕ
    pub live_is : value_of key (live cs) ≡ Some document
    pub there : IsStoredAt told m at document whole

  pub stored_live : IsStoredThroughout → (part : Partition) (ms : List (ComponentState F)) (cs : List Content) (key at : ℕ) (m : ComponentState F) (place : Place) → AreRight told part ms cs → HoldsLive told ms cs key at place → slice_get ms at ≡ Some m
      → StoredLive m cs key place.at
  stored_live stored part ms cs key at m place right h here =
      subst (λ n. StoredLive n cs key place.at) (same_Some h.component m (sym h.here ∙ here)) (live_here (loaded_here ms cs at h.component right.loaded h.here))
    where
      live_here : (l : (c : Content) × IsLoadedOf told h.component c) → StoredLive h.component cs key place.at
      live_here l =
          let index = h.component.index in
          let bytes_are : l.1.bytes ≡ h.bytes = same_Some _ _ (sym l.1.tells ∙ h.tells) in
          let all : AreStoredUpTo index h.bytes (place.at + 1) =
          subst (λ bytes. AreStoredUpTo index bytes (place.at + 1)) bytes_are (subst (λ (i : Index). AreStoredUpTo i l.1.bytes (place.at + 1)) (sym l.1.index) (stored l.0 l.1.bytes (place.at + 1) l.1.is)) in
          let its : IsStoredIn index.version index.names (record_at index.slots place.at h.bytes) = all place.at (slot h.place_is.0 h.place_is.1.0) (omega arith) h.place_is.1.1 h.place_is.1.2 in
          let dictionary : IsDictionary index.names = subst (λ (i : Index). IsDictionary i.names) (sym l.1.index) l.1.is.content.dictionary in
          let k = kept_in index.version index.names (record_at index.slots place.at h.bytes) dictionary its in
          let compact : IsCompactedIn index.version index.names its.document (record_at index.slots place.at h.bytes) = subst (IsCompactedIn index.version index.names its.document) (sym its.spelled) k.compact in
          record {
            document = h.document;
            whole = h.bytes;
            live_is = h.live_is;
            there = record { tells = h.tells; stored = its; is = h.record_is.one its.document (record_of its.document) k.whole (index.version, (its.told, compact)) };
          }

-- what is counted fits the document of a key
split_at : (key : ℕ) (d : Document) (ps : Pairs) → value_of key ps ≡ Some d → (before : List Document) × (after : List Document) × (values_in ps ≡ before ++ d ∷ after)
split_at key d [] is = absurd (cc)
split_at key d (p ∷ ps) is = cases (key == p.0) is (split_at key d ps)
  where
    cases : (b : Bool) → (if b then Some p.1 else value_of key ps) ≡ Some d → (value_of key ps ≡ Some d → (before : List Document) × (after : List Document) × (values_in ps ≡ before ++ d ∷ after))
        → (before : List Document) × (after : List Document) × (values_in (p ∷ ps) ≡ before ++ d ∷ after)
    cases true here more = ([], values_in ps, ap (λ e. e ∷ values_in ps) (same_Some p.1 d here))
    cases false later more = let rest = more later in (p.1 ∷ rest.0, rest.1, ap (λ es. p.1 ∷ es) rest.2)

pub fits_live : (names : List Name) (schema : Counted) (key : ℕ) (d : Document) (ps : Pairs) → value_of key ps ≡ Some d → StandsFor names schema (values_in ps) → FitsByPath names schema (document_shape d)
fits_live names schema key d ps is stands =
    let parts = split_at key d ps is in document_fits names schema parts.0 parts.1 d (subst (StandsFor names schema) parts.2 stands)
