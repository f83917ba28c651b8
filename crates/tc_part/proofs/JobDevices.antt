-- Which files of a part are out once its log is sealed, and once a job begins or its device comes home.
use Rattle.std.proofs.Common.{◌≡◌, ◌∙◌, ◌<◌, ◌+◌, ◌-◌, ◌++◌, ℕ, Bool, true, false, List, [], ◌∷◌, Option, Some, None, is_some, length, map, take, drop, option_map, refl, sym, ap, subst, inl, inr, arith}
use Rattle.std.specs.Prelude.{◌⊎◌, IfSome}
use Rattle.std.proofs.lemmas.Bool.{true≢false}
use Rattle.tc_store.specs.declared.file_name.FileName.{FileName}
use Rattle.tc_store.specs.declared.file_name.FileName.TheVariants.{Component, Log}
use Rattle.tc_store.specs.Disk.{Disk}
use Rattle.tc_store.specs.DiskFile.{DiskFile}
use Rattle.tc_store.specs.Moments.{IfTold}
use Rattle.tc_store.specs.StoreCalls.{comes_home, frozen_entry, makes, removes}
use Rattle.tc_component.specs.Loading.{ComponentState}
use Rattle.tc_list.specs.declared.run.Run.{Run}
use Rattle.tc_list.specs.Intervals.{first_of, last_after, last_of}
use Rattle.tc_list.specs.Runs.{in_run, neighbours}
use Rattle.tc_list.proofs.RunLaws.{in_run-map, run_length}
use Rattle.tc_log.specs.Appending.{LogState}
use Rattle.tc_jobs.specs.Listing.{FailsRemoving}
use Rattle.tc_part_model.specs.PartState.{IsTold, PartState, Told, ToldComponent, told, told_component}
use Rattle.tc_part.specs.FilesOut.{IsOfMergeOut, IsOverAll, OnlyDevicesOut, last_told}
use Rattle.tc_part.specs.FlushEnds.{HasListed, IsFlushCovering, IsFlushUnlisted, covered_name, flushed_name}
use Rattle.tc_part.specs.MergeEnds.{HasRemovedRun, IsMergeRemoving, IsMergeUnlisted, merged_name}
use Rattle.tc_part.specs.Ready.{LiesIn}
use Rattle.tc_part.proofs.DevicesOut.{IsDeviceOf, Nobody, StayOutBut, either_in, fails_removing_in, gone_in, home_in, out_made, out_still, some_removed_in, stay_out-less, stay_out-then, still_told}
use Rattle.tc_part.proofs.OwnIntervals.{seen}
use Rattle.tc_part.proofs.ReplacedRun.{run_kept}

-- ---- the next log

-- where no table is sealed no log is
pub none_with : {T V L M : Type 0} (view : T → V) (f : L → M) (log : Option L) (table : Option T) → is_some log ≡ is_some table → option_map view table ≡ None → option_map f log ≡ None
none_with view f None table both none = refl
none_with view f (Some l) None both none = absurd (cc)
none_with view f (Some l) (Some t) both none = absurd (cc)

-- the log is sealed, and the next one made
pub seal_out : (t u : Told) → t.flushing ≡ false → t.sealed_log ≡ None → u.disks ≡ makes (Log (t.generation + 1)) t.disks → u.generation ≡ t.generation + 1 → is_some u.sealed_log ≡ true → u.components ≡ t.components → u.merging ≡ t.merging
    → OnlyDevicesOut t → OnlyDevicesOut u
seal_out t u idle none disks generation sealed components merging = out_made (Log (t.generation + 1)) t u disks (inl (inl (sym (ap (λ n. Log n) generation)))) each
  where
    each : (name : FileName) → IsDeviceOf t name → IsDeviceOf u name
    each name (inl (inl active)) = inl (inr (sealed, active ∙ ap (λ n. Log n) (omega (arith, generation))))
    each name (inl (inr (some, before))) = absurd (true≢false (sym some ∙ ap (λ o. is_some o) none))
    each name (inr (inl flushed)) = absurd (true≢false (sym flushed.0 ∙ idle))
    each name (inr (inr merged)) = inr (inr (rw (merging, components) merged))

-- ---- the name of a merge

module _ {F : Type 0} (content : F → Option (List ℕ)) where
  last_seen : (g : ℕ) (cs : List (ComponentState F)) → last_told g (seen content cs) ≡ last_after g cs
  last_seen g [] = refl
  last_seen g (c ∷ cs) = last_seen c.index.head.to cs

  over_named : (cs : List (ComponentState F)) (name : FileName) → IsOverAll (seen content cs) name → name ≡ Component (first_of cs) (last_of cs)
  over_named [] name is = absurd is
  over_named (c ∷ cs) name is = is ∙ ap (λ n. Component c.index.head.from n) (last_seen c.index.head.to cs)

  named_over : (cs : List (ComponentState F)) → 0 < length cs → IsOverAll (seen content cs) (Component (first_of cs) (last_of cs))
  named_over [] some = absurd (omega (arith, some))
  named_over (c ∷ cs) some = ap (λ n. Component c.index.head.from n) (sym (last_seen c.index.head.to cs))

  run_seen : (run : Run) (cs : List (ComponentState F)) → take (run.last + 1 - run.first) (drop run.first (seen content cs)) ≡ seen content (in_run run cs)
  run_seen run cs = sym (in_run-map (told_component content) run cs)

  merge_named : (run : Run) (cs : List (ComponentState F)) (name : FileName) → IsOfMergeOut (Some (neighbours run)) (seen content cs) name → name ≡ Component (first_of (in_run run cs)) (last_of (in_run run cs))
  merge_named run cs name is = over_named (in_run run cs) name (subst (λ ts. IsOverAll ts name) (run_seen run cs) is)

  named_merge : (run : Run) (cs : List (ComponentState F)) → LiesIn cs run → IsOfMergeOut (Some (neighbours run)) (seen content cs) (Component (first_of (in_run run cs)) (last_of (in_run run cs)))
  named_merge run cs (several, within) =
      subst (λ ts. IsOverAll ts (Component (first_of (in_run run cs)) (last_of (in_run run cs)))) (sym (run_seen run cs))
      (named_over (in_run run cs) (omega (arith, run_length run cs (omega (arith, several)) within, several)))

  -- of a list that grows
  merge_still : (o : Option Run) (cs : List (ComponentState F)) (c : ComponentState F) (name : FileName) → IfSome o (LiesIn cs) → IsOfMergeOut (option_map neighbours o) (seen content cs) name → IsOfMergeOut (option_map neighbours o) (seen content (cs ++ c ∷ [])) name
  merge_still None cs c name lies is = absurd is
  merge_still (Some run) cs c name (several, within) is =
      subst (λ ts. IsOverAll ts name) (sym (run_seen run (cs ++ c ∷ []) ∙ ap (seen content) (run_kept run cs (c ∷ []) several within)))
      (subst (λ ts. IsOverAll ts name) (run_seen run cs) is)

-- ---- a job begins

pub flush_begun_out : (t u : Told) → u.disks ≡ makes (Component (t.generation - 1) (t.generation - 1)) t.disks → u.generation ≡ t.generation → u.sealed_log ≡ t.sealed_log → u.components ≡ t.components → u.flushing ≡ true → u.merging ≡ t.merging
    → OnlyDevicesOut t → OnlyDevicesOut u
flush_begun_out t u disks generation sealed components flushing merging =
    out_made (Component (t.generation - 1) (t.generation - 1)) t u disks (inr (inl (flushing, ap (λ n. Component (n - 1) (n - 1)) (sym generation)))) each
  where
    each : (name : FileName) → IsDeviceOf t name → IsDeviceOf u name
    each name (inl (inl active)) = inl (inl (active ∙ ap (λ n. Log n) (sym generation)))
    each name (inl (inr (some, before))) = inl (inr (ap (λ o. is_some o) sealed ∙ some, before ∙ ap (λ n. Log (n - 1)) (sym generation)))
    each name (inr (inl flushed)) = inr (inl (flushing, flushed.1 ∙ ap (λ n. Component (n - 1) (n - 1)) (sym generation)))
    each name (inr (inr merged)) = inr (inr (rw (merging, components) merged))

module _ {S D F W : Type 0} (disks : S → List Disk) (moments : D → List DiskFile) (content : F → Option (List ℕ)) (name : F → FileName) (old new : PartState S D F W) where
  abbrev before : Told
  before = told disks moments content old

  abbrev after : Told
  after = told disks moments content new

  pub merge_begun_out : (run : Run) → LiesIn old.list run → old.merging ≡ None → new ≡ record old { store = new.store; main = new.main; merger = None; merging = Some (neighbours run) } → disks new.store ≡ makes (merged_name run old) (disks old.store)
      → OnlyDevicesOut before → OnlyDevicesOut after
  merge_begun_out run lies idle same made only =
      subst (λ (x : PartState S D F W). OnlyDevicesOut (told disks moments content x)) (sym same)
      (out_made (merged_name run old) before (record before { disks = disks new.store; merging = Some (neighbours run) }) made (inr (inr (named_merge content run old.list lies))) each only)
    where
      each : (n : FileName) → IsDeviceOf before n → IsDeviceOf (record before { disks = disks new.store; merging = Some (neighbours run) }) n
      each n (inl log) = inl log
      each n (inr (inl flushed)) = inr (inl flushed)
      each n (inr (inr merged)) = absurd (subst (λ o. IsOfMergeOut o before.components n) idle merged)

  -- ---- a flush comes back

  module _ (device : List DiskFile) (tells : IfTold (disks old.store) (λ disk. IsTold device)) (only : OnlyDevicesOut (record before { flushing = true })) where
    -- nothing is listed
    pub flush_back_out : (ds : List Disk) → StayOutBut (λ n. n ≡ flushed_name old) (disks old.store) ds → OnlyDevicesOut (record before { disks = ds })
    flush_back_out ds stay = out_still (λ n. n ≡ flushed_name old) (record before { flushing = true }) (record before { disks = ds }) stay each only
      where
        each : (n : FileName) → (n ≡ flushed_name old → ⊥) → IsDeviceOf (record before { flushing = true }) n → IsDeviceOf (record before { disks = ds }) n
        each n apart (inl log) = inl log
        each n apart (inr (inl flushed)) = absurd (apart flushed.1)
        each n apart (inr (inr merged)) = inr (inr merged)

    flush_unlisted_out : IsFlushUnlisted disks device old new → OnlyDevicesOut after
    flush_unlisted_out left =
        subst (λ (x : PartState S D F W). OnlyDevicesOut (told disks moments content x)) (sym left.same) (flush_back_out (disks new.store) (either_in (flushed_name old) device (disks old.store) (disks new.store) tells left.home))

    -- the component is listed, and the log that it covers is out no more
    module _ (o : Option Run) (run : old.merging ≡ option_map neighbours o) (lies : IfSome o (LiesIn old.list)) where
      listed : (ds : List Disk) (c : ComponentState F) → StayOutBut (λ n. (n ≡ flushed_name old) ⊎ (n ≡ covered_name old)) (disks old.store) ds
          → OnlyDevicesOut (record before { disks = ds; sealed_log = None; components = map (told_component content) (old.list ++ c ∷ []) })
      listed ds c stay = out_still (λ n. (n ≡ flushed_name old) ⊎ (n ≡ covered_name old)) (record before { flushing = true }) (record before { disks = ds; sealed_log = None; components = map (told_component content) (old.list ++ c ∷ []) }) stay each only
        where
          each : (n : FileName) → ((n ≡ flushed_name old) ⊎ (n ≡ covered_name old) → ⊥) → IsDeviceOf (record before { flushing = true }) n → IsDeviceOf (record before { disks = ds; sealed_log = None; components = map (told_component content) (old.list ++ c ∷ []) }) n
          each n apart (inl (inl active)) = inl (inl active)
          each n apart (inl (inr sealed)) = absurd (apart (inr sealed.1))
          each n apart (inr (inl flushed)) = absurd (apart (inl flushed.1))
          each n apart (inr (inr merged)) =
              inr (inr (subst (λ m. IsOfMergeOut m (map (told_component content) (old.list ++ c ∷ [])) n) (sym run) (merge_still content o old.list c n lies (subst (λ m. IsOfMergeOut m before.components n) run merged))))

      -- the device of the log
      module _ (l : LogState D) (there : old.sealed_log ≡ Some l) (sealed_tells : IfTold (disks old.store) (λ disk. IfSome before.sealed_log (λ log. IsTold log))) where
        abbrev once : List Disk
        once = comes_home (flushed_name old) frozen_entry device (disks old.store)

        flushed_in : StayOutBut (λ n. n ≡ flushed_name old) (disks old.store) once
        flushed_in = home_in (flushed_name old) frozen_entry (λ f. refl) device (disks old.store) tells

        log_tells : IfTold once (λ disk. IsTold (moments l.device))
        log_tells =
            still_told (λ n. n ≡ flushed_name old) (IsTold (moments l.device)) (disks old.store) once flushed_in
            (subst (λ s. IfTold (disks old.store) (λ disk. IfSome s (λ log. IsTold log))) (ap (option_map (λ (x : LogState D). moments x.device)) there) sealed_tells)

        both_in : (ds : List Disk) → StayOutBut (λ n. n ≡ covered_name old) once ds → StayOutBut (λ n. (n ≡ flushed_name old) ⊎ (n ≡ covered_name old)) (disks old.store) ds
        both_in ds stay = stay_out-then (λ n. n ≡ flushed_name old) (λ n. n ≡ covered_name old) (disks old.store) once ds flushed_in stay

        pub flush_listed_out : HasListed content name device old new.list → (failed : Bool) → new ≡ record old { store = new.store; main = new.main; list = new.list; sealed = None; sealed_log = None; failed = failed }
            → disks new.store ≡ removes (covered_name old) (comes_home (covered_name old) frozen_entry (moments l.device) once) → OnlyDevicesOut after
        flush_listed_out is_listed failed same gone =
            subst (λ (x : PartState S D F W). OnlyDevicesOut (told disks moments content x)) (sym same)
            (subst (λ cs. OnlyDevicesOut (record before { disks = disks new.store; sealed_log = None; components = map (told_component content) cs })) (sym is_listed.listed)
            (listed (disks new.store) is_listed.component (both_in (disks new.store) (subst (StayOutBut (λ n. n ≡ covered_name old) once) (sym gone) (gone_in (covered_name old) (moments l.device) once log_tells)))))

        flush_covering_out : IsFlushCovering content name disks moments device old new → OnlyDevicesOut after
        flush_covering_out left =
            subst (λ (x : PartState S D F W). OnlyDevicesOut (told disks moments content x)) (sym left.same)
            (subst (λ cs. OnlyDevicesOut (record before { disks = disks new.store; sealed_log = None; components = map (told_component content) cs })) (sym left.listed.listed)
            (listed (disks new.store) left.listed.component (both_in (disks new.store) (fails_removing_in (covered_name old) (moments l.device) once (disks new.store) log_tells
            (subst (λ s. IfSome s (λ x. FailsRemoving (covered_name old) (moments x.device) once (disks new.store))) there left.covered)))))

        pub flush_ended_out : IsFlushUnlisted disks device old new ⊎ IsFlushCovering content name disks moments device old new → OnlyDevicesOut after
        flush_ended_out (inl left) = flush_unlisted_out left
        flush_ended_out (inr left) = flush_covering_out left

  -- ---- a merge comes back

  module _ (run : Run) (device : List DiskFile) (tells : IfTold (disks old.store) (λ disk. IsTold device)) (only : OnlyDevicesOut (record before { merging = Some (neighbours run) })) where
    pub merge_back_out : (ds : List Disk) (cs : List ToldComponent) → StayOutBut (λ n. n ≡ merged_name run old) (disks old.store) ds → OnlyDevicesOut (record before { disks = ds; components = cs })
    merge_back_out ds cs stay = out_still (λ n. n ≡ merged_name run old) (record before { merging = Some (neighbours run) }) (record before { disks = ds; components = cs }) stay each only
      where
        each : (n : FileName) → (n ≡ merged_name run old → ⊥) → IsDeviceOf (record before { merging = Some (neighbours run) }) n → IsDeviceOf (record before { disks = ds; components = cs }) n
        each n apart (inl log) = inl log
        each n apart (inr (inl flushed)) = inr (inl flushed)
        each n apart (inr (inr merged)) = absurd (apart (merge_named content run old.list n merged))

    -- files of its run are removed
    pub merge_listed_out : HasRemovedRun disks name device run old (disks new.store) → (failed : Bool) → new ≡ record old { store = new.store; main = new.main; list = new.list; failed = failed } → OnlyDevicesOut after
    merge_listed_out removed failed same =
        let once = comes_home (merged_name run old) frozen_entry device (disks old.store) in
        let names = map (λ (c : ComponentState F). name c.file) (in_run run old.list) in
        subst (λ (x : PartState S D F W). OnlyDevicesOut (told disks moments content x)) (sym same)
        (merge_back_out (disks new.store) (map (told_component content) new.list)
        (stay_out-less (λ n. (n ≡ merged_name run old) ⊎ Nobody n) (λ n. n ≡ merged_name run old) (disks old.store) (disks new.store) (λ n at. inl at)
        (stay_out-then (λ n. n ≡ merged_name run old) Nobody (disks old.store) once (disks new.store) (home_in (merged_name run old) frozen_entry (λ f. refl) device (disks old.store) tells) (some_removed_in names once (disks new.store) removed))))

    pub merge_ended_out : IsMergeUnlisted disks device run old new ⊎ IsMergeRemoving content name disks device run old new → OnlyDevicesOut after
    merge_ended_out (inl left) =
        subst (λ (x : PartState S D F W). OnlyDevicesOut (told disks moments content x)) (sym left.same)
        (merge_back_out (disks new.store) before.components (either_in (merged_name run old) device (disks old.store) (disks new.store) tells left.home))
    merge_ended_out (inr left) = merge_listed_out left.removed new.failed left.same
