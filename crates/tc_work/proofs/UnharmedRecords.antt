-- The records of components whose files are told are not damaged.
use Rattle.std.proofs.Common.{◌≡◌, ◌∙◌, ℕ, zero, suc, List, [], ◌∷◌, Option, Some, length, slice_get, sym, ap, subst, inl, inr}
use Rattle.std.specs.Prelude.{All, IfErr, IfSome, Result, Ok, Err}
use Rattle.std.specs.List.{AllZip}
use Rattle.std.proofs.lemmas.List.Elements.{All-get_or}
use Rattle.std.proofs.lemmas.Option.{get_or_from_slice_get, same_Some, slice_get_within}
use Rattle.tc_model.specs.Document.{Document}
use Rattle.tc_plain_model.specs.Writes.{set}
use Rattle.tc_record.specs.Record.{record_of}
use Rattle.tc_compact.specs.Compacted.{IsCompactedIn}
use Rattle.tc_store.specs.declared.damage.Damage.TheVariants.{Bytes, Files}
use Rattle.tc_store.specs.declared.file_name.FileName.{FileName}
use Rattle.tc_component.specs.declared.found.Found.TheVariants.{At}
use Rattle.tc_component.specs.declared.found.Place.{Place}
use Rattle.tc_component.specs.Columns.{IsFound}
use Rattle.tc_component.specs.Fetching.{IsPlace, record_at, IsRecordWithin}
use Rattle.tc_component.specs.Loaded.{IsLoadedOf}
use Rattle.tc_component.specs.Loading.{ComponentState}
use Rattle.tc_component.specs.Reading.{front_of, version_of}
use Rattle.tc_component.specs.Rows.{component_index, record_in, IsComponent, IsShortWrite}
use Rattle.tc_component.specs.Spelling.{Index, IsVersion}
use Rattle.tc_component.proofs.EntryRecords.{kept, within_names, IsKept}
use Rattle.tc_component.proofs.Versions.{told_version}
use Rattle.tc_list.proofs.LoadedContents.{FindsContent}
use Rattle.tc_lsm_model.specs.Contents.{Content, IsEntry}
use Rattle.tc_merge.specs.Faults as merge
use Rattle.tc_part.specs.Harms.{IsHarmIn}
use Rattle.tc_work.specs.declared.fault.EngineFault.{EngineFault}
use Rattle.tc_work.specs.declared.fault.EngineFault.TheVariants as engine
use Rattle.tc_work.specs.Faults.{IfDamage, IfDamaged}

-- at the place of a document stands its record
abbrev pub FetchesContent : Type 0
FetchesContent = (c : Content) (bytes : List ℕ) (at key : ℕ) (d : Document) → IsComponent c bytes → slice_get c.entries at ≡ Some (set key d) → record_at (component_index (version_of bytes) c).slots at bytes ≡ record_in (version_of bytes) c.names d

-- ---- one component

all_at : {X : Type 0} (P : X → Type 0) (xs : List X) (n : ℕ) (x : X) → All P xs → slice_get xs n ≡ Some x → P x
all_at P xs n x all here = subst P (get_or_from_slice_get xs n x x here) (All-get_or P xs n x (slice_get_within xs n x here) all)

-- the document whose record stands at a place
pub record RecordAt (k : Content) (whole : List ℕ) (at : ℕ) : Type 0 where
  pub document : Document
  pub there : record_at (component_index (version_of whole) k).slots at whole ≡ record_in (version_of whole) k.names document
  pub is_kept : IsKept (version_of whole) k.names document

record_found : FindsContent → FetchesContent → (k : Content) (whole : List ℕ) (key : ℕ) (entry : Place) → IsComponent k whole → IsFound (component_index (version_of whole) k).slots key (At entry) → RecordAt k whole entry.at
record_found finds fetches k whole key entry is found =
    let means = finds k whole key (At entry) is found in
    record {
      document = means.0;
      there = fetches k whole entry.at key means.0 is means.2;
      is_kept = kept (version_of whole) (told_version (front_of whole)) k.names key means.0 is.content.dictionary (all_at (IsEntry k.names) k.entries entry.at (key, Some means.0) is.content.entries means.2) (all_at IsShortWrite k.entries entry.at (key, Some means.0) is.records means.2);
    }

-- bytes are the record of a document in the file of an index
pub record IsToldIn (index : Index) (bytes : List ℕ) : Type 0 where
  pub document : Document
  pub told : IsVersion index.version
  pub is_kept : IsKept index.version index.names document
  pub same : bytes ≡ record_in index.version index.names document

module _ {F : Type 0} (content : F → Option (List ℕ)) (finds : FindsContent) (fetches : FetchesContent) where
  -- bytes that a component tells at one of its places are the record of a document
  pub told_record : (m : ComponentState F) (k : Content) (entry : Place) (bytes : List ℕ) → IsLoadedOf content m k → IsPlace m.index.slots entry → IfSome (content m.file) (λ whole. bytes ≡ record_at m.index.slots entry.at whole)
      → IsToldIn m.index bytes
  told_record m k entry bytes l (key, found) is =
      let r = record_found finds fetches k l.bytes key entry l.is (subst (λ (i : Index). IsFound i.slots key (At entry)) l.index found) in record {
        document = r.document;
        told = subst (λ (i : Index). IsVersion i.version) (sym l.index) (told_version (front_of l.bytes));
        is_kept = subst (λ (i : Index). IsKept i.version i.names r.document) (sym l.index) r.is_kept;
        same = subst (λ (o : Option (List ℕ)). IfSome o (λ whole. bytes ≡ record_at m.index.slots entry.at whole)) l.tells is ∙ ap (λ (i : Index). record_at i.slots entry.at l.bytes) l.index ∙ r.there
            ∙ ap (λ (i : Index). record_in i.version i.names r.document) (sym l.index);
      }

  pub loaded_at : (list : List (ComponentState F)) (cs : List Content) (at : ℕ) (m : ComponentState F) → AllZip (IsLoadedOf content) list cs → slice_get list at ≡ Some m → (k : Content) × IsLoadedOf content m k
  loaded_at [] cs at m all here = absurd (cc)
  loaded_at (x ∷ list) [] at m all here = absurd all
  loaded_at (x ∷ list) (k ∷ cs) zero m all here = (k, subst (λ (c : ComponentState F). IsLoadedOf content c k) (same_Some x m here) all.0)
  loaded_at (x ∷ list) (k ∷ cs) (suc at) m all here = loaded_at list cs at m all.1 here

  pub not_harmed_in : (list : List (ComponentState F)) (cs : List Content) (file : FileName) (place : ℕ) (bytes : List ℕ) → AllZip (IsLoadedOf content) list cs → IsHarmIn content list file place bytes → ⊥
  not_harmed_in list cs file place bytes all h =
      let l = loaded_at list cs h.at h.component all h.here in
      let i = h.component.index in
      let r = told_record h.component l.0 h.harm.entry bytes l.1 h.harm.there h.harm.told in
      elim h.harm.broken [
        | inl unjudged ↦ unjudged (subst (IsRecordWithin i.version (length i.names)) (sym r.same) (within_names i.version r.told i.names r.document r.is_kept))
        | inr no_document ↦ no_document r.document (inr (record_of r.document, r.is_kept.whole, (i.version, (r.told, subst (IsCompactedIn i.version i.names r.document) (sym r.same) r.is_kept.compact))))
      ]

  -- nor is one that a merge reads
  pub not_harmed_run : (run : List (ComponentState F)) (cs : List Content) (file : FileName) (place : ℕ) (bytes : List ℕ) → AllZip (IsLoadedOf content) run cs → merge.IsHarmIn content run file place bytes → ⊥
  not_harmed_run run cs file place bytes all h =
      let l = loaded_at run cs h.at h.component all h.here in
      let i = h.component.index in
      let r = told_record h.component l.0 h.harm.entry bytes l.1 h.harm.there h.harm.told in
      h.harm.broken (subst (IsRecordWithin i.version (length i.names)) (sym r.same) (within_names i.version r.told i.names r.document r.is_kept))

-- ---- a fault

no_damage : (fault : EngineFault) (P : FileName → ℕ → List ℕ → Type 0) → ((file : FileName) (place : ℕ) (bytes : List ℕ) → P file place bytes → ⊥) → IfDamage fault P → IfDamaged fault (λ damage. ⊥)
no_damage engine.Disk P never is = tt
no_damage (engine.Damaged (Bytes file place bytes)) P never is = never file place bytes is
no_damage (engine.Damaged (Files names)) P never is = is
no_damage engine.Spent P never is = tt
no_damage engine.Memory P never is = tt

-- where no record is damaged, a fault is no damage
pub unharmed : {X : Type 0} (r : Result X EngineFault) (P : FileName → ℕ → List ℕ → Type 0) → ((file : FileName) (place : ℕ) (bytes : List ℕ) → P file place bytes → ⊥) → IfErr r (λ fault. IfDamage fault P) → IfErr r (λ fault. IfDamaged fault (λ damage. ⊥))
unharmed (Ok x) P never is = tt
unharmed (Err fault) P never is = no_damage fault P never is
