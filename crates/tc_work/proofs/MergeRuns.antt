-- What the job of a merge leaves of its device, once it has run for a part.
use Rattle.std.proofs.Common.{◌≡◌, ◌∙◌, ◌≤◌, ◌<◌, ◌+◌, ℕ, List, [], ◌∷◌, Option, None, length, refl, sym, ap, subst, inl, inr, false}
use Rattle.std.specs.Prelude.{◌^◌, All, IsOk, IsSome, Result}
use Rattle.std.specs.List.{AllZip}
use Rattle.std.proofs.lemmas.Bool.{cases_Bool}
use Rattle.std.proofs.lemmas.List.Elements.{All-nil, All-cons}
use Rattle.tc_store.specs.Counted.{Counts}
use Rattle.tc_store.specs.declared.file_name.FileName.{FileName}
use Rattle.tc_store.specs.Disk.{Disk, IsThere, out, put, same_name}
use Rattle.tc_store.specs.DiskFile.{DiskFile, settled_file}
use Rattle.tc_store.specs.Gate.{IsShutOr, IsShutOrWhole}
use Rattle.tc_store.specs.Moments.{IfTold, LeavesAt, LeavesOnly}
use Rattle.tc_store.specs.StoreCalls.{fresh_file_at, makes}
use Rattle.tc_store.proofs.MomentLemmas.{told_map}
use Rattle.tc_store.proofs.NameLemmas.{same_name-is}
use Rattle.tc_component.specs.Loaded.{IsLoadedOf}
use Rattle.tc_component.specs.Loading.{ComponentState}
use Rattle.tc_component.specs.Rows.{IsComponent, IsShortWrite, component_bytes}
use Rattle.tc_lsm_model.specs.Contents.{Content}
use Rattle.tc_lsm_model.specs.Merges.{IsMerge, Run, in_run}
use Rattle.tc_lsm_model.proofs.MergeLaws.{one_merge}
use Rattle.tc_merge.specs.declared.fault.MergeFault.{MergeFault}
use Rattle.tc_merge.specs.Jobs.{JobState}
use Rattle.tc_merge.specs.Merging.{AreTold as AreRunTold, merge_bytes}
use Rattle.tc_machine.specs.Components.{file_of}
use Rattle.tc_machine.specs.State.{Merging}
use Rattle.tc_machine.specs.Steps.{IsShutOrHas}
use Rattle.tc_part_model.specs.Calls.{HasMade}
use Rattle.tc_part_model.specs.Changes.{merging_part}
use Rattle.tc_part_model.specs.Meaning.{IsPart}
use Rattle.tc_part_model.specs.PartFiles.{AreKeptAt, IfFiles}
use Rattle.tc_part_model.specs.PartState.{Told, IsTold}
use Rattle.tc_part_model.specs.PartView.{PartView}
use Rattle.tc_part_model.proofs.Beginnings.{merge_free}
use Rattle.tc_part_model.proofs.DeviceFiles.{some_sealed}
use Rattle.tc_work.proofs.FlushRuns.{has_component, short_file}
use Rattle.tc_work.proofs.Settled.{told_now}
use Rattle.tc_running.specs.Ran.{HasMerged}
use Rattle.tc_work.specs.JobsOut.{IsMadeIn, MergesFor}
use Rattle.tc_work.proofs.FreshDevices.{none_out, ran_leaves}
use Rattle.tc_work.proofs.StoredMoments.{where_told}
use Rattle.tc_part.proofs.FreshFiles.{before_in, fresh_shut, fresh_tells, since_tells}

-- the files of components that were loaded are told
pub loaded_told : {F : Type 0} (content : F → Option (List ℕ)) (run : List (ComponentState F)) (cs : List Content) → AllZip (IsLoadedOf content) run cs → AreRunTold content run
loaded_told content [] [] loaded = All-nil (λ c. IsSome (content c.file))
loaded_told content [] (x ∷ xs) loaded = absurd loaded
loaded_told content (c ∷ cs) [] loaded = absurd loaded
loaded_told content (c ∷ cs) (x ∷ xs) loaded = All-cons (λ c. IsSome (content c.file)) c cs (subst (λ o. IsSome o) (sym loaded.0.tells) refl) (loaded_told content cs xs loaded.1)

-- ---- the name

-- where one file is made, that is out which was not there
made_out : (name other : FileName) (disk : Disk) → put name out disk other ≡ out → (IsThere (disk other) → ⊥) → name ≡ other
made_out name other disk is free = elim (cases_Bool (same_name name other)) [
  | inl same ↦ same_name-is name other same
  | inr apart ↦ absurd (free (subst (λ e. IsThere e) (sym (at apart)) tt))
]
  where
    at : same_name name other ≡ false → disk other ≡ out
    at apart = let e : put name out disk other ≡ disk other = rw apart refl in sym e ∙ is

-- before a merge makes it, what it makes is not there
name_is_free : (t : Told) (p : PartView) (run : Run) (c : Content) → IsPart t p → 2 ≤ run.length → run.first + run.length ≤ length p.list → IsMerge (in_run run p.list) c → t.merging ≡ None
    → IfTold t.disks (λ disk. IsThere (disk (file_of c)) → ⊥)
name_is_free t p run c is two within is_merge none = at t.disks t.log is.tells.active is.files.kept
  where
    at : (disks : List Disk) (log : List DiskFile) → IfTold disks (λ disk. IsTold log) → IfFiles disks log t.sealed_log (AreKeptAt p false None) → IfTold disks (λ disk. IsThere (disk (file_of c)) → ⊥)
    at [] log tells kept = tt
    at (disk ∷ before) [] tells kept = absurd tells
    at (disk ∷ before) (f ∷ past) tells kept =
        let any = some_sealed t.sealed_log in
        merge_free p disk f any.0 (kept any.0 any.1) run c two within is_merge (none_out p.merge (sym is.view.merging ∙ none))

-- the device of a merge has the name of what it makes
pub merge_device : (t u : Told) (p : PartView) (run : Run) (c : Content) (name : FileName) → IsPart t p → IsPart u (merging_part run c p) → 2 ≤ run.length → run.first + run.length ≤ length p.list → IsMerge (in_run run p.list) c → t.merging ≡ None
    → IsTold t.disks → u.disks ≡ makes name t.disks → name ≡ file_of c
merge_device t u p run c name is begun two within is_merge in_store tells made = at t.disks tells (name_is_free t p run c is two within is_merge in_store)
    (subst (λ (ds : List Disk). IfTold ds (λ disk. disk (file_of c) ≡ out)) made (told_map _ _ u.disks (λ disk jobs. jobs.merge_out) begun.files.jobs))
  where
    at : (disks : List Disk) → IsTold disks → IfTold disks (λ disk. IsThere (disk (file_of c)) → ⊥) → IfTold (makes name disks) (λ disk. disk (file_of c) ≡ out) → name ≡ file_of c
    at [] told free is_out = absurd told
    at (disk ∷ past) told free is_out = made_out name (file_of c) disk is_out free

-- ---- the run

-- All of what it makes is left where it ends well, and else nothing, a closed file, or all.
pub record RanMerge (c : Content) (disks : List Disk) (device : List DiskFile) (Ended : Type 0) : Type 0 where
  pub made : Ended → HasMade c disks device
  pub leaves : IfTold device (LeavesAt (IsShutOrHas (IsComponent c)))

-- a merge that has run, and that works for a part
module _ {F D W : Type 0} (content : F → Option (List ℕ)) (history : D → List DiskFile) (length_of : D → ℕ) (name_of : D → FileName) (counts : W → Counts)
    (list : List Content) (o : Option Merging) (name : FileName) (disks : List Disk) (job : JobState F D W) (works : MergesFor content history name_of list o job)
    (own : IsMadeIn name disks (history job.device))
    (watch : W) (device : D) (outcome : Result (Unit {0}) MergeFault) (ran : HasMerged content history length_of name_of counts job watch device outcome) where
  abbrev c : Content
  c = works.merging.target

  abbrev bytes : List ℕ
  bytes = merge_bytes content job.head job.run

  run_is_told : AreRunTold content job.run
  run_is_told = loaded_told content job.run (in_run works.merging.run list) works.loaded

  same : (ran.merged (in_run works.merging.run list) works.loaded).0 ≡ c
  same = one_merge (in_run works.merging.run list) (ran.merged (in_run works.merging.run list) works.loaded).0 c (ran.merged (in_run works.merging.run list) works.loaded).1 works.is_merge

  records : All IsShortWrite c.entries
  records = subst (λ (x : Content). All IsShortWrite x.entries) same (ran.merged (in_run works.merging.run list) works.loaded).2

  spelled : component_bytes c ≡ bytes
  spelled = subst (λ (x : Content). component_bytes x ≡ bytes) same (ran.merged (in_run works.merging.run list) works.loaded).3

  moments : LeavesOnly (IsShutOrWhole (before_in name own.was) bytes) (fresh_file_at name own.was) (history device)
  moments = subst (λ (fs : List DiskFile). LeavesOnly (IsShutOrWhole (before_in name own.was) bytes) fs (history device)) own.made
      (ran.moments (before_in name own.was) run_is_told (subst (λ (fs : List DiskFile). IfTold fs (LeavesAt (IsShutOr (before_in name own.was)))) (sym own.made) (fresh_shut name own.was)))

  -- whatever came of it
  pub merge_leaves : IfTold (history device) (LeavesAt (IsShutOrHas (IsComponent c)))
  merge_leaves = ran_leaves name own.was (IsComponent c) bytes (history device) (subst (λ (fs : List DiskFile). IfTold fs (LeavesAt (IsShutOrHas (IsComponent c)))) own.made works.device) moments
      (λ short. subst (IsComponent c) spelled (has_component c works.is_content records (subst (λ (bs : List ℕ). length bs < 2 ^ 63) (sym spelled) short)))

  -- over a store that tells its files
  pub ran_merge : IsTold disks → IfTold (history device) (λ f. length_of device ≡ length f.content) → RanMerge c disks (history device) (IsOk outcome)
  ran_merge tells sized = record {
    made = λ ended.
        let is = told_map (λ f. f ≡ settled_file bytes) (λ f. f ≡ settled_file (component_bytes c)) (history device) (λ f same. same ∙ ap settled_file (sym spelled)) (ran.whole ended run_is_told) in
        let fits = short_file (length_of device) (history device) (component_bytes c) new_tells sized is (ran.size ended) in
        record { whole = has_component c works.is_content records fits; tells = told_now disks (λ d. IsTold (history device)) (λ told d. new_tells); content = is };
    leaves = merge_leaves;
  }
    where
      new_tells : IsTold (history device)
      new_tells = since_tells (LeavesAt (IsShutOrWhole (before_in name own.was) bytes)) (fresh_file_at name own.was) (history device) moments (fresh_tells name own.was (where_told disks (IsTold own.was) tells own.told))
