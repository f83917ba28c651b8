-- A merge that was out is handed back to its part: what stays.
use Rattle.std.proofs.Common.{◌≡◌, ◌∙◌, ◌<◌, ◌+◌, ℕ, true, false, List, Option, Some, None, length, map, is_some, refl, sym, ap, subst, arith, inl, inr}
use Rattle.std.specs.Prelude.{◌⊎◌, IfErr, IfSome, IsErrOf, IsOk, IsSome, Result, Ok, Err}
use Rattle.tc_component.specs.Loading.{ComponentState}
use Rattle.tc_flush.specs.Jobs as flush
use Rattle.tc_jobs.specs.Listing.{in_place, FitsFor}
use Rattle.tc_list.specs.Runs.{in_run, swapped}
use Rattle.tc_list.specs.declared.policy.Policy.{Policy}
use Rattle.tc_lsm_model.specs.Lists.{IsList}
use Rattle.tc_lsm_model.specs.Merges.{IsMerge, in_run as contents_in_run}
use Rattle.tc_machine.specs.Events.{with_merge}
use Rattle.tc_machine.specs.State.{Merging}
use Rattle.tc_merge.specs.declared.fault.MergeFault.{MergeFault}
use Rattle.tc_merge.specs.declared.fault.MergeFault.TheVariants as merge_fault
use Rattle.tc_merge.specs.Faults.{IsHarmIn, IsWatched}
use Rattle.tc_merge.specs.Jobs as merge
use Rattle.tc_merge.specs.Merging.{merge_bytes, AreTold as AreRunTold}
use Rattle.tc_part.specs.Closing.{HasFailedEither, HasFailedWhole}
use Rattle.tc_part.specs.FilesOut.{LogIsOut, OnlyDevicesOut}
use Rattle.tc_part.specs.Harms.{IsHarmIn as IsListedHarm}
use Rattle.tc_part.specs.JobHeads.{merged_head}
use Rattle.tc_part.specs.MergeEnds.{IsMergeDamage, IsMergeRemoving, IsMergeUnlisted, LeavesMerge, ListsMerge, OfMergeMade, merged_name, positions, run_out}
use Rattle.tc_part_model.specs.Changes.{merged_part}
use Rattle.tc_part_model.specs.Leaving.{FailedMomentsLeaveStore, StoreMomentsLeaveStore}
use Rattle.tc_part_model.specs.Meaning.{IsPart}
use Rattle.tc_part_model.specs.PartState.{PartState, Told, AreTold, IsTold, told_component}
use Rattle.tc_part_model.specs.PartView.{PartView, store_of}
use Rattle.tc_part_model.proofs.FollowingMoments.{run_on}
use Rattle.tc_part_model.proofs.MergedParts.{merge_keeps_store}
use Rattle.tc_running.specs.Jobs.{JobsState}
use Rattle.tc_running.specs.Ran.{HasMerged}
use Rattle.tc_store.specs.declared.damage.Damage.{Damage}
use Rattle.tc_store.specs.declared.damage.Damage.TheVariants.{Bytes}
use Rattle.tc_store.specs.declared.file_name.FileName.{FileName}
use Rattle.tc_store.specs.DiskFile.{settled_file}
use Rattle.tc_store.specs.Moments.{IfTold}
use Rattle.tc_work.specs.declared.fault.EngineFault.{EngineFault}
use Rattle.tc_work.specs.declared.fault.EngineFault.TheVariants as engine
use Rattle.tc_work.specs.Failing.{HasFailedKeeping}
use Rattle.tc_work.specs.Damage.{IsPartDamage, WereListed}
use Rattle.tc_work.specs.Faults.{IfDamaged}
use Rattle.tc_work.specs.JobsOut.{FlushesFor, IsMergeOf, IsPickedFrom, IsPickedOut, MergesFor, OutAs, flusher_of, merger_of, watched_part}
use Rattle.tc_work.specs.Moving.{Eyes, beside, told_by, works_by, FailsMoving, IsOutBy, IsPickedBy, KeepsJobs, ListsPicked, Moves, MovesWell}
use Rattle.tc_work.specs.Settling.{waiting, HasOnlyMoved, MaySettle, MomentsLeavePairs, MomentsStay, TellsFiles}
use Rattle.tc_work.proofs.InstalledFlushes.{home_untold}
use Rattle.tc_work.proofs.JobEnds.{by_outcome, job_stores, IsSized}
use Rattle.tc_work.proofs.JobsGoOn.{device_tells, flush_goes_on, told_still}
use Rattle.tc_work.proofs.KeptJobs.{flush_out_still}
use Rattle.tc_work.proofs.MergeRuns.{RanMerge, ran_merge}
use Rattle.tc_work.proofs.OnResults.{on_err_only}
use Rattle.tc_work.proofs.PartDamage.{harm_of_run, unfit_of}
use Rattle.tc_work.proofs.PickedMerges.{merge_listed}
use Rattle.tc_work.proofs.RunMerges.{length_swapped, removed_untold, told_swapped}
use Rattle.tc_work.proofs.Settled.{components_still, content_told, whole_keeps, GoesOnUntold}
use Rattle.tc_work.proofs.StoredMoments.{store_moments, where_told}
use Rattle.tc_work.proofs.Watches.{merge_handed}
use Rattle.tc_work.proofs.Windows.{err_always}

-- a flush that is out goes on to work, once what a merge made is listed
works_merged : {S D F W : Type 0} (e : Eyes S D F W) (p : PartView) (m : Merging) (o : Option (flush.JobState D W)) → p.merge ≡ Some m → IsList p.part p.list → IsMerge (contents_in_run m.run p.list) m.target → IfSome o (FlushesFor e.history e.name_of p.part p.list p.sealed p.flush)
    → IfSome o (FlushesFor e.history e.name_of p.part (with_merge p.list p.merge) p.sealed p.flush)
works_merged e p m None is is_list is_merge works = tt
works_merged e p m (Some job) is is_list is_merge works =
    subst (λ o. FlushesFor e.history e.name_of p.part (with_merge p.list o) p.sealed p.flush job) (sym is) (flush_goes_on e.history e.name_of p m job is_list is_merge works)

-- where a merge is among the jobs one is out
merge_there : {A J : Type 0} (o : Option A) (jobs : Option J) (P : J → Type 0) (job : J) → jobs ≡ Some job → OutAs (is_some o) jobs P → is_some o ≡ true
merge_there (Some x) jobs P job is out = refl
merge_there None None P job is out = absurd (cc)
merge_there None (Some j) P job is out = absurd out

module _ {S D F W : Type 0} (e : Eyes S D F W) (file_name : F → FileName) (size_of : D → ℕ) (old new : PartState S D F W) (jobs : JobsState F D W) (job : merge.JobState F D W) (watch : W) (device : D) (outcome : Result (Unit {0}) MergeFault) where
  abbrev t : Told
  t = told_by e (beside old jobs)

  abbrev u : Told
  u = told_by e (beside new jobs)

  abbrev now : JobsState F D W
  now = record jobs { merge = None }

  -- what is known of the merge that is back
  pub record IsBack : Type 0 where
    pub is_job : jobs.merge ≡ Some job
    pub of : IsMergeOf e.disks e.history e.content e.name_of old job
    pub ran : HasMerged e.content e.history size_of e.name_of e.counts job watch device outcome
    pub sized : IsSized e.history size_of device

  -- what the call of the part promises where it succeeds
  pub record IsInstalled : Type 0 where
    pub lists : ListsMerge e.disks e.history e.content file_name e.counts watch (e.history device) old new
    pub moments : OfMergeMade t (e.history device) (λ p. AreTold t.components → StoreMomentsLeaveStore p (merged_part p) t (e.disks new.store))
    pub log_out : LogIsOut t → LogIsOut u

  module _ (back : IsBack) where
    -- the device goes on to tell
    tells_still : IfTold (e.disks old.store) (λ disk. IsTold (e.history device))
    tells_still = device_tells (merged_name (run_out old) old) (e.disks old.store) _ _ (e.history job.device) (e.history device) back.of.device back.of.run_told (λ run_told. back.ran.moments _ run_told)

    -- of a part whose files are told
    module _ (p : PartView) (is : IsPart t p) (told : TellsFiles t) (works : works_by e (beside old jobs) p) where
      pub merges : MergesFor e.content e.history e.name_of p.list p.merge job
      merges = subst (λ o. IfSome o (MergesFor e.content e.history e.name_of p.list p.merge)) back.is_job works.1

      pub ran : RanMerge merges.merging.target (e.disks old.store) (e.history device) (IsOk outcome)
      ran = ran_merge e.content e.history size_of e.name_of e.counts p.list p.merge (merged_name (run_out old) old) (e.disks old.store) job merges back.of.device watch device outcome back.ran told.store back.sized

      stored : store_of (merged_part p) ≡ store_of p
      stored = merge_keeps_store t p merges.merging is merges.is_out

      still_works : works_by e (beside new now) (merged_part p)
      still_works = (works_merged e p merges.merging jobs.flush merges.is_out is.memory.list merges.is_merge works.0, tt)

  module _ (back : IsBack) (devices : IfTold (e.disks old.store) (λ disk. IsTold (e.history device)) → OnlyDevicesOut t → OnlyDevicesOut u) (i : IsInstalled) (sound : old.failed ≡ false) (ready : MaySettle t) (out : IsOutBy e (beside old jobs)) (ended : IsOk outcome) where
    list : new.list ≡ swapped (run_out old) i.lists.listed.component old.list
    list = i.lists.listed.listed

    untold : GoesOnUntold (e.disks old.store) (e.disks new.store)
    untold none = removed_untold old e.disks file_name (merged_name (run_out old) old) (e.history device) (run_out old) none i.lists.removed

    components : AreTold t.components → IsTold (e.disks old.store) → AreTold u.components
    components are_told told =
        subst (λ cs. AreTold (map (told_component e.content) cs)) (sym list)
        (told_swapped e.content (run_out old) old.list i.lists.listed.component are_told (subst (λ o. IsSome o) (sym i.lists.listed.made.has_content) (content_told (e.history device) (where_told (e.disks old.store) (IsTold (e.history device)) told (tells_still back)))))

    pub fewer : length new.list < length old.list
    fewer = omega (arith, ap length list, length_swapped (run_out old) i.lists.listed.component old.list back.of.within.0 back.of.within.1, back.of.within.0)

    pub installed_keeps : (Failed Ended : Type 0) → IsWatched Ended (e.counts old.main) (e.counts new.main) → (Failed → ⊥) → KeepsJobs e Failed (beside old jobs) (beside new (record jobs { merge = None }))
    installed_keeps Failed Ended watched never = record {
      jobs = record {
        flush = flush_out_still e.disks e.history e.content e.name_of old new untold jobs.flush
            (subst (λ (s : PartState S D F W). s ≡ record old { store = s.store; main = s.main; merger = s.merger; list = s.list; active = s.active; log = s.log; taken = s.taken; live = s.live; writes = s.writes; staged = s.staged; merging = s.merging; failed = s.failed }) (sym i.lists.same) refl)
            out.flush;
        merge = subst (λ (s : PartState S D F W). OutAs (is_some s.merging) None (IsMergeOf e.disks e.history e.content e.name_of s)) (sym i.lists.same) tt;
      };
      moved = subst (λ (s : PartState S D F W). HasOnlyMoved old s) (sym i.lists.same) refl;
      untold = untold;
      tells = λ told. record {
        active = told_still (e.disks old.store) (e.disks new.store) (IsTold u.log) untold (subst (λ (s : PartState S D F W). IfTold (e.disks old.store) (λ disk. IsTold (e.history s.log.device))) (sym i.lists.same) told.active);
        sealed = told_still (e.disks old.store) (e.disks new.store) (IfSome u.sealed_log (λ moments. IsTold moments)) untold
            (subst (λ (s : PartState S D F W). IfTold (e.disks old.store) (λ disk. IfSome (told_by e (beside s jobs)).sealed_log (λ moments. IsTold moments))) (sym i.lists.same) told.sealed);
      };
      devices = λ told. devices (tells_still back);
      watched = merge_handed e.counts Failed Ended _ (watched_part old jobs) (watched_part new now) job.watch watch watched back.ran.watched (λ failed. absurd (never failed))
          (ap (λ o. merger_of old.merger o) back.is_job) (ap (λ (s : PartState S D F W). s.merger) i.lists.same) (ap (λ (s : PartState S D F W). flusher_of s.flusher jobs.flush) i.lists.same);
    }

    pub installed_well : MovesWell e (beside old jobs) (beside new now)
    installed_well = record {
      sound = ap (λ (s : PartState S D F W). s.failed) i.lists.same ∙ sound;
      stays = record {
        stores = λ p is told works.
            let m = merges back p is told works in
            let made = (ran back p is told works).made ended in
            let merged = i.lists.merged p m.merging is m.is_out made told.components in
            job_stores (works_by e (beside new now)) t u p (merged_part p) is told.store merged.0 refl merged.1 refl (i.moments p m.merging is m.is_out made told.components)
            (ap (λ (s : PartState S D F W). s.taken) i.lists.same) (components told.components told.store) (still_works back p is told works);
        ready = record { own = i.lists.own ready.own; components = components_still t u untold ready.components (λ told are_told. components are_told told) };
        untold = untold;
      };
      log_out = i.log_out;
    }

    pub installed_moments : MomentsStay (works_by e (beside old jobs)) t (e.disks new.store)
    installed_moments = λ p is told works.
        let m = merges back p is told works in
        store_moments t p (merged_part p) (e.disks new.store) refl (stored back p is told works) (i.moments p m.merging is m.is_out ((ran back p is told works).made ended) told.components)

    pub installed_lists : (policy : Policy) → IsPickedBy e policy (beside old jobs) → ListsPicked e policy (beside old jobs) (beside new (record jobs { merge = None }))
    installed_lists policy picked = record {
      listed = merge_listed policy e.size old new (run_out old) i.lists.listed.component (from_out old.merging out_there picked) list tables;
      picked = subst (λ (s : PartState S D F W). IsPickedOut policy e.size s.list s.merging) (sym i.lists.same) tt;
    }
      where
        tables : waiting new.sealed + old.generation ≡ waiting old.sealed + new.generation
        tables = ap (λ (s : PartState S D F W). waiting s.sealed + old.generation) i.lists.same ∙ ap (λ (s : PartState S D F W). waiting old.sealed + s.generation) (sym i.lists.same)

        out_there : is_some old.merging ≡ true
        out_there = merge_there old.merging jobs.merge (IsMergeOf e.disks e.history e.content e.name_of old) job back.is_job out.merge

        from_out : (o : Option _) → is_some o ≡ true → IsPickedOut policy e.size old.list o → IsPickedFrom policy e.size old.list (positions o)
        from_out None some is = absurd (cc)
        from_out (Some run) some is = is

    pub installed : (Ended : Type 0) → IsWatched Ended (e.counts old.main) (e.counts new.main) → Moves e (Ok tt) (beside old jobs) (beside new (record jobs { merge = None }))
    installed Ended watched = record {
      keeps = installed_keeps _ Ended watched (λ disk. absurd (cc));
      well = installed_well;
      failed = tt;
      moments = installed_moments;
      logs = (ap (λ (s : PartState S D F W). s.log) i.lists.same, ap (λ (s : PartState S D F W). s.generation) i.lists.same);
      sealed_log = inl (ap (λ (s : PartState S D F W). s.sealed_log) i.lists.same);
      damaged = tt;
      undamaged = λ p is told works. tt;
      unspent = λ spent. absurd (cc);
    }

  -- ---- where it fails

  -- what the call promises then
  pub record HasFallen : Type 0 where
    pub left : IsMergeUnlisted e.disks (e.history device) (run_out old) (record old { merger = Some watch; merging = None }) new ⊎ IsMergeRemoving e.content file_name e.disks (e.history device) (run_out old) (record old { merger = Some watch; merging = None }) new
    pub failed : OfMergeMade t (e.history device) (λ p. AreTold t.components → HasFailedEither u p (merged_part p))
    pub moments : OfMergeMade t (e.history device) (λ p. AreTold t.components → StoreMomentsLeaveStore p (merged_part p) t (e.disks new.store))
    pub unmade_failed : IfErr outcome (λ cause. (p : PartView) (m : Merging) → IsPart t p → p.merge ≡ Some m → LeavesMerge m (e.history device) → HasFailedWhole u p)
    pub unmade_moments : IfErr outcome (λ cause. (p : PartView) (m : Merging) → IsPart t p → p.merge ≡ Some m → LeavesMerge m (e.history device) → FailedMomentsLeaveStore p None t (e.disks new.store))

  module _ (back : IsBack) (devices : IfTold (e.disks old.store) (λ disk. IsTold (e.history device)) → OnlyDevicesOut t → OnlyDevicesOut u) (f : HasFallen) (out : IsOutBy e (beside old jobs)) where
    fallen_untold : GoesOnUntold (e.disks old.store) (e.disks new.store)
    fallen_untold none = elim f.left [
      | inl unlisted ↦ home_untold (merged_name (run_out old) old) (e.history device) (e.disks old.store) (e.disks new.store) none unlisted.home
      | inr removing ↦ removed_untold old e.disks file_name (merged_name (run_out old) old) (e.history device) (run_out old) none removing.removed
    ]

    -- whatever is listed, no log changed
    abbrev there : PartState S D F W
    there = record old { store = new.store; main = new.main; merger = Some watch; merging = None; list = new.list; failed = new.failed }

    same : new ≡ there
    same = elim f.left [
      | inl unlisted ↦ subst (λ (s : PartState S D F W). s ≡ record old { store = s.store; main = s.main; merger = Some watch; merging = None; list = s.list; failed = s.failed }) (sym unlisted.same) refl
      | inr removing ↦ subst (λ (s : PartState S D F W). s ≡ record old { store = s.store; main = s.main; merger = Some watch; merging = None; list = s.list; failed = s.failed }) (sym removing.same) refl
    ]

    pub fallen_keeps : (Failed Ended : Type 0) → IsWatched Ended (e.counts old.main) (e.counts new.main) → (Failed → Ended ⊎ IsErrOf outcome merge_fault.Disk) → KeepsJobs e Failed (beside old jobs) (beside new (record jobs { merge = None }))
    fallen_keeps Failed Ended watched cause = record {
      jobs = record {
        flush = flush_out_still e.disks e.history e.content e.name_of old new fallen_untold jobs.flush
            (subst (λ (s : PartState S D F W). s ≡ record old { store = s.store; main = s.main; merger = s.merger; list = s.list; active = s.active; log = s.log; taken = s.taken; live = s.live; writes = s.writes; staged = s.staged; merging = s.merging; failed = s.failed }) (sym same) refl)
            out.flush;
        merge = subst (λ (s : PartState S D F W). OutAs (is_some s.merging) None (IsMergeOf e.disks e.history e.content e.name_of s)) (sym same) tt;
      };
      moved = subst (λ (s : PartState S D F W). HasOnlyMoved old s) (sym same) refl;
      untold = fallen_untold;
      tells = λ told. record {
        active = told_still (e.disks old.store) (e.disks new.store) (IsTold u.log) fallen_untold (subst (λ (s : PartState S D F W). IfTold (e.disks old.store) (λ disk. IsTold (e.history s.log.device))) (sym same) told.active);
        sealed = told_still (e.disks old.store) (e.disks new.store) (IfSome u.sealed_log (λ moments. IsTold moments)) fallen_untold
            (subst (λ (s : PartState S D F W). IfTold (e.disks old.store) (λ disk. IfSome (told_by e (beside s jobs)).sealed_log (λ moments. IsTold moments))) (sym same) told.sealed);
      };
      devices = λ told. devices (tells_still back);
      watched = merge_handed e.counts Failed Ended _ (watched_part old jobs) (watched_part new now) job.watch watch watched back.ran.watched cause
          (ap (λ o. merger_of old.merger o) back.is_job) (ap (λ (s : PartState S D F W). s.merger) same) (ap (λ (s : PartState S D F W). flusher_of s.flusher jobs.flush) same);
    }

    pub fallen_fails : FailsMoving e (beside old jobs) (beside new now)
    fallen_fails = λ p is told works.
        let m = merges back p is told works in
        let r = ran back p is told works in
        by_outcome outcome _ (HasFailedKeeping (works_by e (beside new now)) (record u { failed = true }) p.part (store_of p) None) f.unmade_failed
        (λ cause has. whole_keeps (works_by e (beside new now)) u p p refl refl (has p m.merging is m.is_out r.leaves) (works.0, tt))
        (λ ended. elim (f.failed p m.merging is m.is_out (r.made ended) told.components) [
          | inl as_was ↦ whole_keeps (works_by e (beside new now)) u p p refl refl as_was (works.0, tt)
          | inr listed ↦ whole_keeps (works_by e (beside new now)) u p (merged_part p) refl (stored back p is told works) listed (still_works back p is told works)
        ])

    pub fallen_moments : MomentsStay (works_by e (beside old jobs)) t (e.disks new.store)
    fallen_moments = λ p is told works.
        let m = merges back p is told works in
        let r = ran back p is told works in
        by_outcome outcome _ (MomentsLeavePairs p.part (store_of p) t (e.disks new.store)) f.unmade_moments
        (λ cause moments. store_moments t p p (e.disks new.store) refl refl (run_on t p (e.disks new.store) (moments p m.merging is m.is_out r.leaves)))
        (λ ended. store_moments t p (merged_part p) (e.disks new.store) refl (stored back p is told works) (f.moments p m.merging is m.is_out (r.made ended) told.components))

    were_listed : WereListed old.list (in_place (run_out old) old.list) new.list
    were_listed = elim f.left [
      | inl unlisted ↦ inl (ap (λ (s : PartState S D F W). s.list) unlisted.same)
      | inr removing ↦ inr (removing.listed.component, removing.listed.listed)
    ]

    -- what the merge wrote was read back
    pub fallen_damage : IsOk outcome → (damage : Damage) → IsMergeDamage e.content file_name (size_of device) (e.history device) (run_out old) old damage → IsPartDamage e.content e.history new damage
    fallen_damage ended damage is = subst (λ (s : PartState S D F W). IsPartDamage e.content e.history s damage) (sym same) (inr (inr (inr (record {
      device = device;
      run = run_out old;
      among = old.list;
      written = subst (λ head. AreRunTold e.content (in_run (run_out old) old.list) → IfTold (e.history device) (λ f. f ≡ settled_file (merge_bytes e.content head (in_run (run_out old) old.list)))) back.of.head
          (subst (λ run. AreRunTold e.content run → IfTold (e.history device) (λ f. f ≡ settled_file (merge_bytes e.content job.head run))) back.of.run (back.ran.whole ended));
      listed = were_listed;
      unfit = unfit_of e.content file_name (FitsFor (run_out old) old.list) (merged_head old.number old.count (run_out old) old.list) (merged_name (run_out old) old) (size_of device) (e.history device) damage is;
    }))))

    -- or it found a record of its run damaged, and nothing was listed
    pub harmed_damage : new.list ≡ old.list → (file : FileName) (place : ℕ) (bytes : List ℕ) → IsHarmIn e.content job.run file place bytes → IsPartDamage e.content e.history new (Bytes file place bytes)
    harmed_damage listed file place bytes harm =
        inl (subst (λ (xs : List (ComponentState F)). IsListedHarm e.content xs file place bytes) (sym listed) (harm_of_run e.content (run_out old) old.list file place bytes (subst (λ run. IsHarmIn e.content run file place bytes) back.of.run harm)))

    pub fallen : (r : Result (Unit {0}) EngineFault) (fault : EngineFault) → r ≡ Err fault → (Ended : Type 0) → IsWatched Ended (e.counts old.main) (e.counts new.main) → (IsErrOf r engine.Disk → Ended ⊎ IsErrOf outcome merge_fault.Disk)
        → IfErr r (λ f. IfDamaged f (IsPartDamage e.content e.history new)) → ((p : PartView) → IsPart t p → TellsFiles t → works_by e (beside old jobs) p → IfErr r (λ f. IfDamaged f (λ damage. ⊥))) → (IsErrOf r engine.Spent → ⊥)
        → Moves e r (beside old jobs) (beside new (record jobs { merge = None }))
    fallen r fault is Ended watched cause damaged undamaged unspent = record {
      keeps = fallen_keeps _ Ended watched cause;
      well = on_err_only r fault _ is;
      failed = err_always r _ fallen_fails;
      moments = fallen_moments;
      logs = (ap (λ (s : PartState S D F W). s.log) same, ap (λ (s : PartState S D F W). s.generation) same);
      sealed_log = inl (ap (λ (s : PartState S D F W). s.sealed_log) same);
      damaged = damaged;
      undamaged = undamaged;
      unspent = unspent;
    }
