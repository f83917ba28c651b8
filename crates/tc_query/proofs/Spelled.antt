-- What the record at the place of an entry spells, and that it is no damage where the file is that of a content.
use Rattle.std.proofs.Common.{◌≡◌, ◌∙◌, ◌<◌, ◌^◌, ℕ, Bool, true, false, List, Option, Some, [], ◌∷◌, zero, suc, inl, inr, length, slice_get, refl, sym, ap, subst, arith}
use Rattle.std.specs.Prelude.{IfSome}
use Rattle.std.specs.List.{AllZip}
use Rattle.std.proofs.lemmas.Option.{same_Some, slice_get_within, get_or_from_slice_get}
use Rattle.tc_compact.specs.Compacted.{IsCompactedIn}
use Rattle.tc_compact.specs.Meant.{IsRecordUnder}
use Rattle.tc_component.specs.Columns.{IsFound}
use Rattle.tc_component.specs.Fetching.{record_at, IsRecordWithin}
use Rattle.tc_component.specs.Loaded.{IsLoadedOf}
use Rattle.tc_component.specs.Loading.{ComponentState}
use Rattle.tc_component.specs.Meaning.{MeansOf, IsRecordOfOne}
use Rattle.tc_component.specs.Reading.{version_of}
use Rattle.tc_component.specs.Rows.{component_index, record_in, IsShortWrite, IsComponent}
use Rattle.tc_component.specs.Spelling.{Index}
use Rattle.tc_component.specs.declared.found.Found.{Found}
use Rattle.tc_component.specs.declared.found.Found.TheVariants.{At}
use Rattle.tc_list.proofs.LoadedContents.{Records}
use Rattle.tc_lsm_model.specs.Contents.{Content, IsEntry}
use Rattle.tc_model.proofs.StoredDocuments.{keyless_object}
use Rattle.tc_model.specs.Document.{Name, Document}
use Rattle.tc_plain_model.specs.Writes.{set}
use Rattle.tc_query.specs.Faults.{OfDamage, IsUnharmed, AreNoRecord, IsHarmOf, IsHarmIn}
use Rattle.tc_query.specs.declared.fault.QueryFault.{QueryFault}
use Rattle.tc_query.specs.declared.fault.QueryFault.TheVariants.{Disk, Damaged, Memory}
use Rattle.tc_record.specs.Record.{NumberedTree, record_of, IsRecordOf, IsNumberedRecordIn}
use Rattle.tc_store.specs.declared.file_name.FileName.{FileName}

pub of_damage_then : (fault : QueryFault) (P Q : FileName → ℕ → List ℕ → Type 0) → ((file : FileName) (place : ℕ) (bytes : List ℕ) → P file place bytes → Q file place bytes) → OfDamage fault P → OfDamage fault Q
of_damage_then Disk P Q f is = tt
of_damage_then (Damaged file place bytes) P Q f is = f file place bytes is
of_damage_then Memory P Q f is = tt

-- a record whose numbers mean one document means no other
pub means_one : (version : ℕ) (names : List Name) (bytes : List ℕ) (named : Bool) (d e : Document) → ((x : Document) → IsRecordOf x bytes → named ≡ true) → ((n : NumberedTree) → IsNumberedRecordIn version n bytes → named ≡ false)
    → IsRecordUnder names e bytes → IsRecordOfOne version names d bytes → e ≡ d
means_one version names bytes named d e with_names with_numbers (inl is) one =
    let yes = with_names e is in
    let no = with_numbers _ one.record_is.numbered in
    absurd (cc)
means_one version names bytes named d e with_names with_numbers (inr is) one = one.one e is.0 is.1 is.2

-- ---- no damage

-- what a component's index and its file have of its content
pub record AreContents : Type 0 where
  pub found : (c : Content) (bytes : List ℕ) (key : ℕ) (found : Found) → IsComponent c bytes → IsFound (component_index (version_of bytes) c).slots key found → MeansOf c.entries key found
  pub read : (c : Content) (bytes : List ℕ) (at key : ℕ) (d : Document) → IsComponent c bytes → slice_get c.entries at ≡ Some (set key d)
      → Records c bytes at d

-- the document of an entry has a record
has_record : (c : Content) (bytes : List ℕ) (at key : ℕ) (d : Document) → IsComponent c bytes → slice_get c.entries at ≡ Some (set key d) → IsRecordOf d (record_of d)
has_record c bytes at key d is here =
    let there = slice_get_within c.entries at (set key d) here in
    let same = get_or_from_slice_get c.entries at (set key d) (set key d) here in
    let entry = subst (IsEntry c.names) same (is.content.entries at (set key d) there) in
    let short = subst IsShortWrite same (is.records at (set key d) there) in
    record { document = entry.document; is_object = keyless_object d entry.storable.1; shallow = entry.storable.0; spelled = refl; short = shorter (length (record_of d)) short }
  where
    shorter : (n : ℕ) → n < 2 ^ 30 → n < 2 ^ 32
    shorter n less = omega (arith, less)

module _ {F : Type 0} (told : F → Option (List ℕ)) (laws : AreContents) where
  -- at a place of a component of a content stands a record of a document
  no_harm : (component : ComponentState F) (c : Content) (file : FileName) (place : ℕ) (bytes : List ℕ) → IsLoadedOf told component c → IsHarmOf told component file place bytes → ⊥
  no_harm component c file place bytes l h =
      let at = h.entry.at in
      let key = h.there.0 in
      let means = laws.found c l.bytes key (At h.entry) l.is (subst (λ (i : Index). IsFound i.slots key (At h.entry)) l.index h.there.1) in
      let d = means.0 in
      let here = means.2 in
      let version = version_of l.bytes in
      let read = laws.read c l.bytes at key d l.is here in
      let same : bytes ≡ record_in version c.names d =
      subst (λ o. IfSome o (λ whole. bytes ≡ record_at component.index.slots at whole)) l.tells h.stands
      ∙ ap (λ (i : Index). record_at i.slots at l.bytes) l.index ∙ read.there in
      broken (subst (λ (i : Index). AreNoRecord i.version i.names bytes) l.index h.broken)
      (subst (IsRecordWithin version (length c.names)) (sym same) read.within)
      (inr (record_of d, has_record c l.bytes at key d l.is here, (version, (read.within.told, subst (IsCompactedIn version c.names d) (sym same) read.one.record_is))))
    where
      broken : {version : ℕ} {names : List Name} {d : Document} → AreNoRecord version names bytes → IsRecordWithin version (length names) bytes → IsRecordUnder names d bytes → ⊥
      broken (inl never) within under = never within
      broken {version} {names} {d} (inr never) within under = never d under

  harm_at : (cs : List (ComponentState F)) (contents : List Content) (at : ℕ) (component : ComponentState F) (file : FileName) (place : ℕ) (bytes : List ℕ) → AllZip (IsLoadedOf told) cs contents
      → slice_get cs at ≡ Some component → IsHarmOf told component file place bytes → ⊥
  harm_at [] contents at component file place bytes all here h = absurd (cc)
  harm_at (m ∷ cs) [] at component file place bytes all here h = absurd all
  harm_at (m ∷ cs) (c ∷ contents) zero component file place bytes all here h = no_harm component c file place bytes (subst (λ n. IsLoadedOf told n c) (same_Some m component here) all.0) h
  harm_at (m ∷ cs) (c ∷ contents) (suc at) component file place bytes all here h = harm_at cs contents at component file place bytes all.1 here h

  pub unharmed : (fault : QueryFault) (cs : List (ComponentState F)) (contents : List Content) → AllZip (IsLoadedOf told) cs contents → OfDamage fault (λ file at bytes. IsHarmIn told cs file at bytes) → IsUnharmed fault
  unharmed fault cs contents all is = of_damage_then fault _ _ (λ file place bytes h. harm_at cs contents h.at h.component file place bytes all h.here h.harm) is
