-- A flush that was out is handed back to its part: what stays.
use Rattle.std.proofs.Common.{◌≡◌, ◌∙◌, ◌+◌, ◌++◌, ℕ, true, false, List, [], ◌∷◌, Option, Some, None, map, is_some, refl, sym, ap, subst, arith, inl, inr}
use Rattle.std.specs.Prelude.{◌⊎◌, IfErr, IfSome, IsErrOf, IsOk, IsSome, Result, Ok, Err}
use Rattle.tc_flush.specs.Flushing.{flush_bytes}
use Rattle.tc_flush.specs.Jobs as flush
use Rattle.tc_jobs.specs.Listing.{behind, FailsRemoving, FitsBehind}
use Rattle.tc_jobs.specs.ReadBack.{ComesHome}
use Rattle.tc_list.specs.declared.policy.Policy.{Policy}
use Rattle.tc_log.specs.Appending.{LogState}
use Rattle.tc_lsm_model.specs.Contents.{Content}
use Rattle.tc_lsm_model.specs.Tables.{Table}
use Rattle.tc_machine.specs.Kept.{MergeFits}
use Rattle.tc_memory.specs.DocumentTables.{IsTableOf}
use Rattle.tc_merge.specs.Faults.{IsWatched}
use Rattle.tc_merge.specs.Jobs as merge
use Rattle.tc_part.specs.Closing.{HasFailedEither, HasFailedWhole}
use Rattle.tc_part.specs.FilesOut.{LogIsOut, OnlyDevicesOut, TellsLogs}
use Rattle.tc_part.specs.FlushEnds.{IsFlushCovering, IsFlushDamage, IsFlushUnlisted, LeavesFlush, ListsFlush, OfFlushMade, covered_name, flushed_name}
use Rattle.tc_part.specs.JobHeads.{flushed_head}
use Rattle.tc_part.specs.MergeEnds.{merged_name, run_out}
use Rattle.tc_part_model.specs.Changes.{flushed_part}
use Rattle.tc_part_model.specs.Leaving.{FailedMomentsLeaveStore, StoreMomentsLeaveStore}
use Rattle.tc_part_model.specs.Meaning.{IsPart}
use Rattle.tc_part_model.specs.PartState.{PartState, Told, AreTold, IsTold, told_component}
use Rattle.tc_part_model.specs.PartView.{PartView, store_of}
use Rattle.tc_part_model.proofs.DeviceFiles.{comes_untold}
use Rattle.tc_part_model.proofs.FollowingMoments.{run_on}
use Rattle.tc_running.specs.Jobs.{JobsState}
use Rattle.tc_running.specs.Ran.{HasFlushed}
use Rattle.tc_store.specs.declared.damage.Damage.{Damage}
use Rattle.tc_store.specs.declared.fault.DeviceFault.{DeviceFault}
use Rattle.tc_store.specs.declared.fault.DeviceFault.TheVariants as device_fault
use Rattle.tc_store.specs.declared.file_name.FileName.{FileName}
use Rattle.tc_store.specs.Disk.{Disk, home}
use Rattle.tc_store.specs.DiskFile.{settled_file, DiskFile}
use Rattle.tc_store.specs.Moments.{IfTold}
use Rattle.tc_store.specs.StoreCalls.{comes_home, frozen_entry, removes}
use Rattle.tc_work.specs.declared.fault.EngineFault.{EngineFault}
use Rattle.tc_work.specs.declared.fault.EngineFault.TheVariants as engine
use Rattle.tc_work.specs.Damage.{IsPartDamage, WereListed}
use Rattle.tc_work.specs.Failing.{HasFailedKeeping}
use Rattle.tc_work.specs.Faults.{IfDamaged}
use Rattle.tc_work.specs.JobsOut.{FlushesFor, IsFlushOf, IsMergeOf, IsPickedOut, MergesFor, OutAs, flusher_of, merger_of, watched_part}
use Rattle.tc_work.specs.Moving.{Eyes, beside, told_by, works_by, FailsMoving, IsOutBy, IsPickedBy, KeepsJobs, ListsPicked, Moves, MovesWell}
use Rattle.tc_work.specs.Settling.{waiting, HasOnlyMoved, MaySettle, MomentsLeavePairs, MomentsStay, TellsFiles}
use Rattle.tc_work.proofs.FlushRuns.{RanFlush, ran_flush}
use Rattle.tc_work.proofs.JobEnds.{by_outcome, job_stores, IsSized}
use Rattle.tc_work.proofs.JobsGoOn.{device_tells, merge_goes_on, told_still}
use Rattle.tc_work.proofs.KeptJobs.{merge_out_behind, merge_out_still}
use Rattle.tc_work.proofs.OnResults.{on_err_only}
use Rattle.tc_work.proofs.PartDamage.{unfit_of}
use Rattle.tc_work.proofs.PickedMerges.{flush_listed, picked_behind}
use Rattle.tc_work.proofs.SealedFlushes.{flushed_keeps, uncovered_untold}
use Rattle.tc_work.proofs.Settled.{components_still, content_told, told_behind, told_now, whole_keeps, GoesOnUntold}
use Rattle.tc_work.proofs.StoredMoments.{store_moments, where_told}
use Rattle.tc_work.proofs.Watches.{as_watched, flush_handed}
use Rattle.tc_work.proofs.Windows.{err_always}

-- a merge that is out goes on to work, once what a flush made is listed
works_listed : {S D F W : Type 0} (e : Eyes S D F W) (p : PartView) (c : Content) (o : Option (merge.JobState F D W)) → IfSome p.merge (MergeFits p.list)
    → IfSome o (MergesFor e.content e.history e.name_of p.list p.merge) → IfSome o (MergesFor e.content e.history e.name_of (p.list ++ c ∷ []) p.merge)
works_listed e p c None fits works = tt
works_listed e p c (Some job) fits works = merge_goes_on e.content e.history e.name_of p.list p.merge c job works (subst (λ x. IfSome x (MergeFits p.list)) works.is_out fits).within

-- the device came home, over a store that tells nothing
home_kept : (name : FileName) (device : List DiskFile) (disks : List Disk) → disks ≡ [] → comes_home name frozen_entry device disks ≡ []
home_kept name device disks none = ap (λ ds. comes_home name frozen_entry device ds) none ∙ comes_untold name frozen_entry device

pub home_untold : (name : FileName) (device : List DiskFile) (disks now : List Disk) → disks ≡ [] → ComesHome name device disks now → now ≡ []
home_untold name device disks now none (inl is) = is ∙ home_kept name device disks none
home_untold name device disks now none (inr is) = is ∙ ap (λ ds. comes_home name (λ f. home f) device ds) none ∙ comes_untold name (λ f. home f) device

covered_untold : {D : Type 0} (history : D → List DiskFile) (o : Option (LogState D)) → is_some o ≡ true → (name : FileName) (disks now : List Disk) → disks ≡ [] → IfSome o (λ l. FailsRemoving name (history l.device) disks now) → now ≡ []
covered_untold history None some name disks now none is = absurd (cc)
covered_untold history (Some l) some name disks now none (inl is) = is ∙ ap (λ ds. comes_home name (λ f. home f) (history l.device) ds) none ∙ comes_untold name (λ f. home f) (history l.device)
covered_untold history (Some l) some name disks now none (inr is) = is ∙ ap (λ ds. removes name (comes_home name frozen_entry (history l.device) ds)) none ∙ ap (removes name) (comes_untold name frozen_entry (history l.device))

module _ {S D F W : Type 0} (e : Eyes S D F W) (file_name : F → FileName) (size_of : D → ℕ) (old new : PartState S D F W) (jobs : JobsState F D W) (job : flush.JobState D W) (watch : W) (device : D) (outcome : Result (Unit {0}) DeviceFault) where
  abbrev t : Told
  t = told_by e (beside old jobs)

  abbrev u : Told
  u = told_by e (beside new jobs)

  abbrev now : JobsState F D W
  now = record jobs { flush = None }

  -- what is known of the flush that is back
  pub record IsBack : Type 0 where
    pub is_job : jobs.flush ≡ Some job
    pub of : IsFlushOf e.disks e.history e.name_of old job
    pub ran : HasFlushed e.history size_of e.name_of e.counts job watch device outcome
    pub sized : IsSized e.history size_of device

  -- what the call of the part promises, whatever it answers
  pub record IsHandedBack : Type 0 where
    pub devices : IfTold (e.disks old.store) (λ disk. IsTold (e.history device)) → TellsLogs t → OnlyDevicesOut t → OnlyDevicesOut u
    pub merge_named : is_some old.merging ≡ true → merged_name (run_out new) new ≡ merged_name (run_out old) old

  -- and where it succeeds
  pub record IsInstalled : Type 0 where
    pub lists : ListsFlush e.disks e.history e.content file_name e.counts watch (e.history device) old new
    pub moments : OfFlushMade t (e.history device) (λ p c. StoreMomentsLeaveStore p (flushed_part c p) t (e.disks new.store))
    pub log_out : LogIsOut t → LogIsOut u

  -- the device goes on to tell
  tells_still : (back : IsBack) (table : Table) → IsTableOf table job.kept → IfTold (e.disks old.store) (λ disk. IsTold (e.history device))
  tells_still back table of =
      device_tells (flushed_name old) (e.disks old.store) (Unit {0}) _ (e.history job.device) (e.history device) back.of.device (told_now back.of.device.was (λ d. Unit {0}) (λ told d. tt))
      (λ needed. back.ran.moments _ table of)

  module _ (back : IsBack) (handed : IsHandedBack) (i : IsInstalled) (both : is_some old.sealed_log ≡ true) (flushing : old.flushing ≡ true)
      (sound : old.failed ≡ false) (ready : MaySettle t) (out : IsOutBy e (beside old jobs)) (table : Table) (of : IsTableOf table job.kept)
      (ended : IsOk outcome) where
    list : new.list ≡ old.list ++ i.lists.listed.component ∷ []
    list = i.lists.listed.listed

    untold : GoesOnUntold (e.disks old.store) (e.disks new.store)
    untold none = uncovered_untold old e.disks e.history (e.history device) (e.disks new.store) both i.lists.uncovered none

    tells : IfTold (e.disks old.store) (λ disk. IsTold (e.history device))
    tells = tells_still back table of

    components : AreTold t.components → IsTold (e.disks old.store) → AreTold u.components
    components are_told told =
        subst (λ cs. AreTold (map (told_component e.content) cs)) (sym list)
        (told_behind e.content old.list i.lists.listed.component are_told (subst (λ o. IsSome o) (sym i.lists.listed.made.has_content) (content_told (e.history device) (where_told (e.disks old.store) (IsTold (e.history device)) told tells))))

    pub installed_keeps : (Failed Ended : Type 0) → IsWatched Ended (e.counts old.main) (e.counts new.main) → (Failed → ⊥) → KeepsJobs e Failed (beside old jobs) (beside new (record jobs { flush = None }))
    installed_keeps Failed Ended watched never = record {
      jobs = record {
        flush = subst (λ (s : PartState S D F W). OutAs s.flushing None (IsFlushOf e.disks e.history e.name_of s)) (sym i.lists.same) tt;
        merge = merge_out_behind e.disks e.history e.content e.name_of old new untold jobs.merge i.lists.listed.component (ap (λ (s : PartState S D F W). s.merging) i.lists.same) list
            (ap (λ (s : PartState S D F W). s.number) i.lists.same, ap (λ (s : PartState S D F W). s.count) i.lists.same) handed.merge_named out.merge;
      };
      moved = subst (λ (s : PartState S D F W). HasOnlyMoved old s) (sym i.lists.same) refl;
      untold = untold;
      tells = λ told. record {
        active = told_still (e.disks old.store) (e.disks new.store) (IsTold u.log) untold (subst (λ (s : PartState S D F W). IfTold (e.disks old.store) (λ disk. IsTold (e.history s.log.device))) (sym i.lists.same) told.active);
        sealed = subst (λ (s : PartState S D F W). IfTold (e.disks new.store) (λ disk. IfSome (told_by e (beside s jobs)).sealed_log (λ moments. IsTold moments))) (sym i.lists.same) (told_now (e.disks new.store) (λ d. Unit {0}) (λ told d. tt));
      };
      devices = handed.devices tells;
      watched = flush_handed e.counts Failed Ended _ (watched_part old jobs) (watched_part new now) job.watch watch watched (as_watched _ _ _ back.ran.watched) (λ failed. absurd (never failed))
          (ap (λ o. flusher_of old.flusher o) back.is_job) (ap (λ (s : PartState S D F W). s.flusher) i.lists.same) (ap (λ (s : PartState S D F W). merger_of s.merger jobs.merge) i.lists.same);
    }

    -- of a part whose files are told
    module _ (p : PartView) (is : IsPart t p) (told : TellsFiles t) (works : works_by e (beside old jobs) p) where
      its_flush : FlushesFor e.history e.name_of p.part p.list p.sealed p.flush job
      its_flush = subst (λ o. IfSome o (FlushesFor e.history e.name_of p.part p.list p.sealed p.flush)) back.is_job works.0

      pub ran : RanFlush p (e.disks old.store) (e.history device) (IsOk outcome)
      ran = ran_flush e.history size_of e.name_of e.counts p (flushed_name old) (e.disks old.store) job its_flush back.of.device watch device outcome back.ran told.store back.sized

      pub still_works : works_by e (beside new now) (flushed_part ran.content p)
      still_works = (tt, works_listed e p ran.content jobs.merge is.memory.merge works.1)

    pub installed_well : MovesWell e (beside old jobs) (beside new now)
    installed_well = record {
      sound = ap (λ (s : PartState S D F W). s.failed) i.lists.same ∙ sound;
      stays = record {
        stores = λ p is told works.
            let r = ran p is told works in
            let made = r.made ended in
            let flushed = i.lists.flushed p r.content is r.makes made in
            job_stores (works_by e (beside new now)) t u p (flushed_part r.content p) is told.store flushed.0 refl flushed.1 refl (i.moments p r.content is r.makes made)
            (ap (λ (s : PartState S D F W). s.taken) i.lists.same) (components told.components told.store) (still_works p is told works);
        ready = record { own = i.lists.own ready.own; components = components_still t u untold ready.components (λ told are_told. components are_told told) };
        untold = untold;
      };
      log_out = i.log_out;
    }

    pub installed_moments : MomentsStay (works_by e (beside old jobs)) t (e.disks new.store)
    installed_moments = λ p is told works.
        let r = ran p is told works in
        store_moments t p (flushed_part r.content p) (e.disks new.store) refl (i.lists.flushed p r.content is r.makes (r.made ended)).1 (i.moments p r.content is r.makes (r.made ended))

    pub installed_lists : (policy : Policy) → IsPickedBy e policy (beside old jobs) → ListsPicked e policy (beside old jobs) (beside new (record jobs { flush = None }))
    installed_lists policy picked = record {
      listed = flush_listed policy e.size old new i.lists.listed.component list tables;
      picked = subst (λ (s : PartState S D F W). IsPickedOut policy e.size s.list s.merging) (sym i.lists.same) (subst (λ xs. IsPickedOut policy e.size xs old.merging) (sym list) (at old.merging picked));
    }
      where
        tables : waiting new.sealed + old.generation + 1 ≡ waiting old.sealed + new.generation
        tables =
            let sealed : waiting old.sealed ≡ 1 = ap (λ o. waiting o) (sym back.of.table) in
            let none : waiting new.sealed ≡ 0 = ap (λ (s : PartState S D F W). waiting s.sealed) i.lists.same in
            let same : new.generation ≡ old.generation = ap (λ (s : PartState S D F W). s.generation) i.lists.same in
            omega (arith, sealed, none, same)

        at : (o : Option _) → IsPickedOut policy e.size old.list o → IsPickedOut policy e.size (old.list ++ i.lists.listed.component ∷ []) o
        at None is = tt
        at (Some run) is = picked_behind policy e.size old.list i.lists.listed.component _ is

    pub installed : (Ended : Type 0) → IsWatched Ended (e.counts old.main) (e.counts new.main) → Moves e (Ok tt) (beside old jobs) (beside new (record jobs { flush = None }))
    installed Ended watched = record {
      keeps = installed_keeps _ Ended watched (λ disk. absurd (cc));
      well = installed_well;
      failed = tt;
      moments = installed_moments;
      logs = (ap (λ (s : PartState S D F W). s.log) i.lists.same, ap (λ (s : PartState S D F W). s.generation) i.lists.same);
      sealed_log = inr (ap (λ (s : PartState S D F W). s.sealed_log) i.lists.same);
      damaged = tt;
      undamaged = λ p is told works. tt;
      unspent = λ spent. absurd (cc);
    }

  -- ---- where it fails

  -- what the call promises then
  pub record HasFallen : Type 0 where
    pub left : IsFlushUnlisted e.disks (e.history device) (record old { flusher = Some watch; flushing = false }) new ⊎ IsFlushCovering e.content file_name e.disks e.history (e.history device) (record old { flusher = Some watch; flushing = false }) new
    pub failed : OfFlushMade t (e.history device) (λ p c. HasFailedEither u p (flushed_part c p))
    pub moments : OfFlushMade t (e.history device) (λ p c. StoreMomentsLeaveStore p (flushed_part c p) t (e.disks new.store))
    pub unmade_failed : IfErr outcome (λ cause. (p : PartView) → IsPart t p → LeavesFlush p (e.history device) → HasFailedWhole u p)
    pub unmade_moments : IfErr outcome (λ cause. (p : PartView) → IsPart t p → LeavesFlush p (e.history device) → FailedMomentsLeaveStore p None t (e.disks new.store))

  module _ (back : IsBack) (handed : IsHandedBack) (f : HasFallen) (both : is_some old.sealed_log ≡ true) (flushing : old.flushing ≡ true) (out : IsOutBy e (beside old jobs)) (table : Table) (of : IsTableOf table job.kept) where
    fallen_untold : GoesOnUntold (e.disks old.store) (e.disks new.store)
    fallen_untold none = elim f.left [
      | inl unlisted ↦ home_untold (flushed_name old) (e.history device) (e.disks old.store) (e.disks new.store) none unlisted.home
      | inr covering ↦ covered_untold e.history old.sealed_log both (covered_name old) _ (e.disks new.store) (home_kept (flushed_name old) (e.history device) (e.disks old.store) none) covering.covered
    ]

    logs_same : (new.log ≡ old.log) × (new.merging ≡ old.merging) × (new.merger ≡ old.merger) × (new.flusher ≡ Some watch) × (new.flushing ≡ false) × HasOnlyMoved old new
    logs_same = elim f.left [
      | inl unlisted ↦ subst (λ (s : PartState S D F W). (s.log ≡ old.log) × (s.merging ≡ old.merging) × (s.merger ≡ old.merger) × (s.flusher ≡ Some watch) × (s.flushing ≡ false) × HasOnlyMoved old s) (sym unlisted.same) (refl, refl, refl, refl, refl, refl)
      | inr covering ↦ subst (λ (s : PartState S D F W). (s.log ≡ old.log) × (s.merging ≡ old.merging) × (s.merger ≡ old.merger) × (s.flusher ≡ Some watch) × (s.flushing ≡ false) × HasOnlyMoved old s) (sym covering.same) (refl, refl, refl, refl, refl, refl)
    ]

    merge_out : OutAs (is_some new.merging) jobs.merge (IsMergeOf e.disks e.history e.content e.name_of new)
    merge_out = elim f.left [
      | inl unlisted ↦ merge_out_still e.disks e.history e.content e.name_of old new fallen_untold jobs.merge
          (subst (λ (s : PartState S D F W). s ≡ record old {
            store = s.store;
            main = s.main;
            flusher = s.flusher;
            sealed = s.sealed;
            sealed_log = s.sealed_log;
            active = s.active;
            log = s.log;
            generation = s.generation;
            taken = s.taken;
            live = s.live;
            writes = s.writes;
            staged = s.staged;
            flushing = s.flushing;
            failed = s.failed;
          }) (sym unlisted.same) refl)
          out.merge
      | inr covering ↦ merge_out_behind e.disks e.history e.content e.name_of old new fallen_untold jobs.merge covering.listed.component (ap (λ (s : PartState S D F W). s.merging) covering.same) covering.listed.listed
          (ap (λ (s : PartState S D F W). s.number) covering.same, ap (λ (s : PartState S D F W). s.count) covering.same) handed.merge_named out.merge
    ]

    pub fallen_keeps : (Failed Ended : Type 0) → IsWatched Ended (e.counts old.main) (e.counts new.main) → (Failed → Ended ⊎ IsErrOf outcome device_fault.Fault) → KeepsJobs e Failed (beside old jobs) (beside new (record jobs { flush = None }))
    fallen_keeps Failed Ended watched cause = record {
      jobs = record { flush = subst (λ b. OutAs b None (IsFlushOf e.disks e.history e.name_of new)) (sym logs_same.4) tt; merge = merge_out };
      moved = logs_same.5;
      untold = fallen_untold;
      tells = λ told. record {
        active = told_still (e.disks old.store) (e.disks new.store) (IsTold u.log) fallen_untold (subst (λ l. IfTold (e.disks old.store) (λ disk. IsTold (e.history l.device))) (sym logs_same.0) told.active);
        sealed = sealed_tells told;
      };
      devices = handed.devices (tells_still back table of);
      watched = flush_handed e.counts Failed Ended _ (watched_part old jobs) (watched_part new now) job.watch watch watched (as_watched _ _ _ back.ran.watched) cause (ap (λ o. flusher_of old.flusher o) back.is_job) logs_same.3 (ap (λ m. merger_of m jobs.merge) logs_same.2);
    }
      where
        sealed_tells : TellsLogs t → IfTold u.disks (λ disk. IfSome u.sealed_log (λ moments. IsTold moments))
        sealed_tells told = elim f.left [
          | inl unlisted ↦ told_still (e.disks old.store) (e.disks new.store) (IfSome u.sealed_log (λ moments. IsTold moments)) fallen_untold
              (subst (λ (s : PartState S D F W). IfTold (e.disks old.store) (λ disk. IfSome (told_by e (beside s jobs)).sealed_log (λ moments. IsTold moments))) (sym unlisted.same) told.sealed)
          | inr covering ↦ subst (λ (s : PartState S D F W). IfTold (e.disks new.store) (λ disk. IfSome (told_by e (beside s jobs)).sealed_log (λ moments. IsTold moments))) (sym covering.same) (told_now (e.disks new.store) (λ d. Unit {0}) (λ told d. tt))
        ]

    -- of a part whose files are told
    module _ (p : PartView) (is : IsPart t p) (told : TellsFiles t) (works : works_by e (beside old jobs) p) where
      fallen_flush : FlushesFor e.history e.name_of p.part p.list p.sealed p.flush job
      fallen_flush = subst (λ o. IfSome o (FlushesFor e.history e.name_of p.part p.list p.sealed p.flush)) back.is_job works.0

      pub fallen_ran : RanFlush p (e.disks old.store) (e.history device) (IsOk outcome)
      fallen_ran = ran_flush e.history size_of e.name_of e.counts p (flushed_name old) (e.disks old.store) job fallen_flush back.of.device watch device outcome back.ran told.store back.sized

      fallen_stored : store_of (flushed_part fallen_ran.content p) ≡ store_of p
      fallen_stored = flushed_keeps e.history t p fallen_ran.content old.sealed_log refl both is flushing fallen_ran.makes

      fallen_listed : works_by e (beside new now) (flushed_part fallen_ran.content p)
      fallen_listed = (tt, works_listed e p fallen_ran.content jobs.merge is.memory.merge works.1)

    pub fallen_fails : FailsMoving e (beside old jobs) (beside new now)
    fallen_fails = λ p is told works.
        let r = fallen_ran p is told works in
        by_outcome outcome _ (HasFailedKeeping (works_by e (beside new now)) (record u { failed = true }) p.part (store_of p) None) f.unmade_failed
        (λ cause has. whole_keeps (works_by e (beside new now)) u p p refl refl (has p is r.leaves) (tt, works.1))
        (λ ended. elim (f.failed p r.content is r.makes (r.made ended)) [
          | inl as_was ↦ whole_keeps (works_by e (beside new now)) u p p refl refl as_was (tt, works.1)
          | inr listed ↦ whole_keeps (works_by e (beside new now)) u p (flushed_part r.content p) refl (fallen_stored p is told works) listed (fallen_listed p is told works)
        ])

    pub fallen_moments : MomentsStay (works_by e (beside old jobs)) t (e.disks new.store)
    fallen_moments = λ p is told works.
        let r = fallen_ran p is told works in
        by_outcome outcome _ (MomentsLeavePairs p.part (store_of p) t (e.disks new.store)) f.unmade_moments
        (λ cause moments. store_moments t p p (e.disks new.store) refl refl (run_on t p (e.disks new.store) (moments p is r.leaves)))
        (λ ended. store_moments t p (flushed_part r.content p) (e.disks new.store) refl (fallen_stored p is told works) (f.moments p r.content is r.makes (r.made ended)))

    generation_same : new.generation ≡ old.generation
    generation_same = elim f.left [
      | inl unlisted ↦ ap (λ (s : PartState S D F W). s.generation) unlisted.same
      | inr covering ↦ ap (λ (s : PartState S D F W). s.generation) covering.same
    ]

    were_listed : WereListed old.list (behind old.list) new.list
    were_listed = elim f.left [
      | inl unlisted ↦ inl (ap (λ (s : PartState S D F W). s.list) unlisted.same)
      | inr covering ↦ inr (covering.listed.component, covering.listed.listed)
    ]

    -- whatever is listed, it is of the same partition
    there : new ≡ record old { store = new.store; main = new.main; flusher = Some watch; flushing = false; list = new.list; sealed = new.sealed; sealed_log = new.sealed_log; failed = new.failed }
    there = elim f.left [
      | inl unlisted ↦ subst (λ (s : PartState S D F W). s ≡ record old { store = s.store; main = s.main; flusher = Some watch; flushing = false; list = s.list; sealed = s.sealed; sealed_log = s.sealed_log; failed = s.failed }) (sym unlisted.same) refl
      | inr covering ↦ subst (λ (s : PartState S D F W). s ≡ record old { store = s.store; main = s.main; flusher = Some watch; flushing = false; list = s.list; sealed = s.sealed; sealed_log = s.sealed_log; failed = s.failed }) (sym covering.same) refl
    ]

    -- the table is sealed still, or none is
    of_sealed : IfSome new.sealed (IsTableOf table)
    of_sealed = elim f.left [
      | inl unlisted ↦ subst (λ o. IfSome o (IsTableOf table)) (back.of.table ∙ ap (λ (s : PartState S D F W). s.sealed) (sym unlisted.same)) of
      | inr covering ↦ subst (λ (s : PartState S D F W). IfSome s.sealed (IsTableOf table)) (sym covering.same) tt
    ]

    -- what the flush wrote was read back
    pub fallen_damage : IsOk outcome → (damage : Damage) → IsFlushDamage e.content file_name (size_of device) (e.history device) old damage → IsPartDamage e.content e.history new damage
    fallen_damage ended damage is = subst (λ (s : PartState S D F W). IsPartDamage e.content e.history s damage) (sym there) (inr (inr (inl (record {
      device = device;
      names = job.names;
      schema = job.schema;
      table = table;
      of = of_sealed;
      written = subst (λ head. IfTold (e.history device) (λ f. f ≡ settled_file (flush_bytes head job.names job.schema table))) back.of.head (back.ran.whole ended table of);
      among = old.list;
      listed = were_listed;
      unfit = unfit_of e.content file_name (FitsBehind old.list) (flushed_head old.number old.count old.generation) (flushed_name old) (size_of device) (e.history device) damage is;
    }))))

    pub fallen : (r : Result (Unit {0}) EngineFault) (fault : EngineFault) → r ≡ Err fault → (Ended : Type 0) → IsWatched Ended (e.counts old.main) (e.counts new.main) → (IsErrOf r engine.Disk → Ended ⊎ IsErrOf outcome device_fault.Fault)
        → IfErr r (λ f. IfDamaged f (IsPartDamage e.content e.history new))
        → ((p : PartView) → IsPart t p → TellsFiles t → works_by e (beside old jobs) p → IfErr r (λ f. IfDamaged f (λ damage. ⊥))) → (IsErrOf r engine.Spent → ⊥)
        → Moves e r (beside old jobs) (beside new (record jobs { flush = None }))
    fallen r fault is Ended watched cause damaged undamaged unspent = record {
      keeps = fallen_keeps _ Ended watched cause;
      well = on_err_only r fault _ is;
      failed = err_always r _ fallen_fails;
      moments = fallen_moments;
      logs = (logs_same.0, generation_same);
      sealed_log = elim f.left [
        | inl unlisted ↦ inl (ap (λ (s : PartState S D F W). s.sealed_log) unlisted.same)
        | inr covering ↦ inr (ap (λ (s : PartState S D F W). s.sealed_log) covering.same)
      ];
      damaged = damaged;
      undamaged = undamaged;
      unspent = unspent;
    }
