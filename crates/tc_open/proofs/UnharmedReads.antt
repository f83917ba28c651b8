-- What is read of components that were loaded of contents is not damaged.
use Rattle.std.proofs.Common.{◌≡◌, ◌∙◌, ℕ, List, Option, Some, None, length, slice_get, sym, ap, subst, inl, inr}
use Rattle.std.specs.Prelude.{◌⊎◌, IfSome, Result, Err}
use Rattle.std.specs.List.{AllZip}
use Rattle.std.specs.Option.{IsSomeAnd, MatchOption}
use Rattle.std.proofs.lemmas.List.Elements.{All-get_or}
use Rattle.std.proofs.lemmas.Option.{get_or_from_slice_get, slice_get_within}
use Rattle.std.proofs.lemmas.Slice.Zip.{AllZip-left}
use Rattle.tc_model.specs.Document.{Document}
use Rattle.tc_plain_model.specs.Writes.{Write, set}
use Rattle.tc_record.specs.Record.{record_of}
use Rattle.tc_compact.specs.Compacted.{IsCompactedIn}
use Rattle.tc_compact.specs.Meant.{IsRecordUnder}
use Rattle.tc_store.specs.declared.damage.Damage.TheVariants.{Bytes, Files}
use Rattle.tc_store.specs.declared.file_name.FileName.{FileName}
use Rattle.tc_component.specs.declared.found.Found.TheVariants.{At}
use Rattle.tc_component.specs.Columns.{IsFound}
use Rattle.tc_component.specs.Fetching.{record_at, IsRecordWithin}
use Rattle.tc_component.specs.Loaded.{IsLoadedOf}
use Rattle.tc_component.specs.Loading.{ComponentState}
use Rattle.tc_component.specs.Reading.{front_of, version_of}
use Rattle.tc_component.specs.Rows.{component_index, record_in, IsComponent, IsShortWrite}
use Rattle.tc_component.specs.Spelling.{Index}
use Rattle.tc_component.proofs.EntryRecords.{kept, within_names, IsKept}
use Rattle.tc_component.proofs.Versions.{told_version}
use Rattle.tc_list.proofs.LoadedContents.{FindsContent}
use Rattle.tc_lsm_model.specs.Contents.{Content, IsEntry}
use Rattle.tc_jobs.specs.declared.fault.JobFault.{JobFault}
use Rattle.tc_jobs.specs.declared.fault.JobFault.TheVariants as job
use Rattle.tc_jobs.specs.Faults.{IfDamaged, IfHarmed, of_merge}
use Rattle.tc_merge.specs.declared.fault.MergeFault.{MergeFault}
use Rattle.tc_merge.specs.declared.fault.MergeFault.TheVariants as merge_fault
use Rattle.tc_merge.specs.Faults as merge
use Rattle.tc_part.specs.Harms.{IsHarmIn, IsHarmOf}

-- where at the place of a document stands its record
module _ {F : Type 0} (content : F → Option (List ℕ)) (finds : FindsContent)
    (fetches : (c : Content) (bytes : List ℕ) (at key : ℕ) (d : Document) → IsComponent c bytes → slice_get c.entries at ≡ Some (set key d) → record_at (component_index (version_of bytes) c).slots at bytes ≡ record_in (version_of bytes) c.names d) where
  -- of a component that was loaded of a content nothing else than its records is read
  sound_of : (m : ComponentState F) (k : Content) (file : FileName) (place : ℕ) (bytes : List ℕ) → IsLoadedOf content m k → IsHarmOf content m file place bytes → ⊥
  sound_of m k file place bytes l h =
      let means = finds k l.bytes h.there.0 (At h.entry) l.is (subst (λ (i : Index). IsFound i.slots h.there.0 (At h.entry)) l.index h.there.1) in
      let version = version_of l.bytes in
      let told = told_version (front_of l.bytes) in
      let d = means.0 in
      let w : Write = (h.there.0, Some d) in
      let within = slice_get_within k.entries h.entry.at w means.2 in
      let here = get_or_from_slice_get k.entries h.entry.at w w means.2 in
      let entry = subst (IsEntry k.names) here (All-get_or (IsEntry k.names) k.entries h.entry.at w within l.is.content.entries) in
      let short = subst IsShortWrite here (All-get_or IsShortWrite k.entries h.entry.at w within l.is.records) in
      let is_kept : IsKept version k.names d = kept version told k.names h.there.0 d l.is.content.dictionary entry short in
      let same : bytes ≡ record_in version k.names d =
      subst (λ (o : Option (List ℕ)). IfSome o (λ whole. bytes ≡ record_at m.index.slots h.entry.at whole)) l.tells h.told ∙ ap (λ (i : Index). record_at i.slots h.entry.at l.bytes) l.index ∙ fetches k l.bytes h.entry.at h.there.0 d l.is means.2 in
      elim (subst (λ (i : Index). (IsRecordWithin i.version (length i.names) bytes → ⊥) ⊎ ((e : Document) → IsRecordUnder i.names e bytes → ⊥)) l.index h.broken) [
        | inl unread ↦ unread (subst (IsRecordWithin version (length k.names)) (sym same) (within_names version told k.names d is_kept))
        | inr no_document ↦ no_document d (inr (record_of d, is_kept.whole, (version, (told, subst (IsCompactedIn version k.names d) (sym same) is_kept.compact))))
      ]

  sound_fault : (X : Type 0) (list : List (ComponentState F)) (cs : List Content) (fault : JobFault) → AllZip (IsLoadedOf content) list cs → IfHarmed fault (IsHarmIn content list) → IfDamaged {X = X} (Err fault) (λ damage. ⊥)
  sound_fault X list cs job.Disk all harmed = tt
  sound_fault X list cs (job.Damaged (Bytes file place bytes)) all h =
      at (slice_get cs h.at) (subst (λ (o : Option (ComponentState F)). MatchOption o (Unit {0}) (λ m. IsSomeAnd (slice_get cs h.at) (IsLoadedOf content m))) h.here (AllZip-left (IsLoadedOf content) list cs all h.at))
    where
      at : (o : Option Content) → IsSomeAnd o (IsLoadedOf content h.component) → ⊥
      at None none = none
      at (Some k) l = sound_of h.component k file place bytes l h.harm
  sound_fault X list cs (job.Damaged (Files names)) all harmed = harmed
  sound_fault X list cs job.Memory all harmed = tt

  -- nor is a record that a merge reads
  pub sound_merge : (X : Type 0) (list : List (ComponentState F)) (cs : List Content) (fault : MergeFault) → AllZip (IsLoadedOf content) list cs → merge.IfHarmed fault (merge.IsHarmIn content list) → IfDamaged {X = X} (Err (of_merge fault)) (λ damage. ⊥)
  sound_merge X list cs merge_fault.Disk all harmed = tt
  sound_merge X list cs (merge_fault.Damaged file place bytes) all h =
      let m = h.harm in
      sound_fault X list cs (job.Damaged (Bytes file place bytes)) all
      (record { at = h.at; component = h.component; here = h.here; harm = record { entry = m.entry; there = m.there; file_is = m.file_is; place_is = m.place_is; long = m.long; broken = inl m.broken; told = m.told } })
  sound_merge X list cs merge_fault.Memory all harmed = tt

  -- a call that only reads them tells no damage
  pub sound_reads : {X : Type 0} (list : List (ComponentState F)) (cs : List Content) (r : Result X JobFault) (fault : JobFault) → r ≡ Err fault → AllZip (IsLoadedOf content) list cs → IfHarmed fault (IsHarmIn content list) → IfDamaged r (λ damage. ⊥)
  sound_reads {X = X} list cs r fault is all harmed = subst (λ (s : Result X JobFault). IfDamaged s (λ damage. ⊥)) (sym is) (sound_fault X list cs fault all harmed)
