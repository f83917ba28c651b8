-- A merge of a part that was begun, and is out: what stays.
use Rattle.std.proofs.Common.{◌≡◌, ◌∙◌, ◌≤◌, ◌+◌, false, Some, None, length, map, is_some, refl, sym, ap, subst, inl}
use Rattle.std.specs.Prelude.{Result, Ok, IsErrOf}
use Rattle.tc_list.specs.Policies.{IsPicked}
use Rattle.tc_list.specs.Runs.{in_run, neighbours}
use Rattle.tc_list.specs.declared.policy.Policy.{Policy}
use Rattle.tc_list.specs.declared.run.Run.{Run}
use Rattle.tc_lsm_model.specs.Contents.{Content}
use Rattle.tc_lsm_model.specs.Merges.{IsMerge, in_run as contents_in_run}
use Rattle.tc_lsm_model.proofs.MergeLaws.{swapped_replaces}
use Rattle.tc_machine.specs.Components.{file_of}
use Rattle.tc_machine.specs.Steps.{IsShutOrHas}
use Rattle.tc_component.specs.Rows.{IsComponent}
use Rattle.tc_merge.specs.Jobs as merge
use Rattle.tc_merge.specs.Merging.{AreTold as AreRunTold}
use Rattle.tc_part.specs.declared.fault.PartFault.{PartFault}
use Rattle.tc_part.specs.declared.fault.PartFault.TheVariants as part
use Rattle.tc_part.specs.Begun.{BeginsMerge}
use Rattle.tc_part.specs.FilesOut.{OnlyDevicesOut}
use Rattle.tc_part.specs.JobHeads.{merged_head}
use Rattle.tc_part.specs.MergeEnds.{merged_name, run_out}
use Rattle.tc_part.specs.Ready.{LiesIn}
use Rattle.tc_part_model.specs.Changes.{merging_part}
use Rattle.tc_part_model.specs.Leaving.{StoreMomentsLeaveStore}
use Rattle.tc_part_model.specs.Meaning.{IsPart}
use Rattle.tc_part_model.specs.PartState.{PartState, Told, AreTold, IsTold}
use Rattle.tc_part_model.specs.PartView.{PartView}
use Rattle.tc_running.specs.Jobs.{JobsState}
use Rattle.tc_store.specs.Counted.{IsCounted}
use Rattle.tc_store.specs.declared.file_name.FileName.{FileName}
use Rattle.tc_store.specs.Moments.{IfTold, LeavesAt}
use Rattle.tc_store.specs.StoreCalls.{fresh_file_at, makes}
use Rattle.tc_work.specs.JobsOut.{IsMergeOf, IsPickedOut, OutAs, flusher_of, merger_of, watched_part}
use Rattle.tc_work.specs.Moving.{Eyes, beside, told_by, works_by, IsOutBy, KeepsJobs, ListsPicked, Moves, MovesWell}
use Rattle.tc_work.specs.Settling.{HasOnlyMoved, IsListedBy, MaySettle, MomentsStay, TellsFiles}
use Rattle.tc_work.proofs.FilesOut.{logs_tell_still}
use Rattle.tc_work.proofs.FreshDevices.{fresh_merge_told}
use Rattle.tc_work.proofs.JobEnds.{job_stores}
use Rattle.tc_work.proofs.KeptJobs.{flush_out_still}
use Rattle.tc_work.proofs.MergeRuns.{merge_device}
use Rattle.tc_work.proofs.PickedMerges.{listed_same, picked_of_all}
use Rattle.tc_work.proofs.RunMerges.{run_told, run_within, some_merge}
use Rattle.tc_work.proofs.Settled.{components_still, told_now, GoesOnUntold}
use Rattle.tc_work.proofs.StartedFlushes.{made_there, none_there}
use Rattle.tc_work.proofs.StoredMoments.{store_moments, where_told}
use Rattle.tc_work.proofs.Watches.{main_watched}

module _ {S D F W X : Type 0} (e : Eyes S D F W) (old new : PartState S D F W) (jobs : JobsState F D W) (job : merge.JobState F D W) (run : Run) (below : Result X PartFault) where
  abbrev t : Told
  t = told_by e (beside old jobs)

  abbrev u : Told
  u = told_by e (beside new jobs)

  abbrev now : JobsState F D W
  now = record jobs { merge = Some job }

  abbrev its_name : FileName
  its_name = merged_name run old

  -- what the call of the part promises
  pub record HasBegun : Type 0 where
    pub begins : BeginsMerge e.disks e.history e.content e.name_of run job old new
    pub moments : (p : PartView) (c : Content) → IsPart t p → IsMerge (contents_in_run (neighbours run) p.list) c → StoreMomentsLeaveStore p (merging_part (neighbours run) c p) t (e.disks new.store)
    pub devices : OnlyDevicesOut t → OnlyDevicesOut u

  module _ (b : HasBegun) (sound : old.failed ≡ false) (none_out : old.merging ≡ None) (lies : LiesIn old.list run) (ready : MaySettle t) (out : IsOutBy e (beside old jobs)) where
    untold : GoesOnUntold (e.disks old.store) (e.disks new.store)
    untold none = b.begins.made ∙ ap (makes its_name) none

    none : jobs.merge ≡ None
    none = none_there jobs.merge (IsMergeOf e.disks e.history e.content e.name_of old) (is_some old.merging) (ap is_some none_out) out.merge

    list : new.list ≡ old.list
    list = ap (λ (s : PartState S D F W). s.list) b.begins.same

    named : merged_name (run_out new) new ≡ its_name
    named = ap (λ r. merged_name r new) b.begins.out ∙ ap (λ (s : PartState S D F W). merged_name run s) b.begins.same

    is_out : IsOutBy e (beside new now)
    is_out = record {
      flush = flush_out_still e.disks e.history e.content e.name_of old new untold jobs.flush
          (subst (λ (s : PartState S D F W). s ≡ record old { store = s.store; main = s.main; merger = s.merger; list = s.list; active = s.active; log = s.log; taken = s.taken; live = s.live; writes = s.writes; staged = s.staged; merging = s.merging; failed = s.failed }) (sym b.begins.same) refl)
          out.flush;
      merge = subst (λ m. OutAs (is_some m) (Some job) (IsMergeOf e.disks e.history e.content e.name_of new)) (sym (ap (λ (s : PartState S D F W). s.merging) b.begins.same)) (record {
        within = subst (λ r. LiesIn new.list r) (sym b.begins.out) (subst (λ xs. LiesIn xs run) (sym list) lies);
        run = b.begins.components ∙ ap (in_run run) (sym list) ∙ ap (λ r. in_run r new.list) (sym b.begins.out);
        head = b.begins.head ∙ ap (λ (s : PartState S D F W). merged_head s.number s.count run s.list) (sym b.begins.same) ∙ ap (λ r. merged_head new.number new.count r new.list) (sym b.begins.out);
        name = b.begins.name ∙ sym named;
        device = record { was = e.disks old.store; made = b.begins.file ∙ ap (λ n. fresh_file_at n (e.disks old.store)) (sym named); told = made_there its_name (e.disks old.store) (e.disks new.store) b.begins.made };
        run_told = told_now (e.disks old.store) (λ d. AreRunTold e.content job.run) (λ told d. subst (AreRunTold e.content) (sym b.begins.components) (run_told e.content run old.list (given told)));
      });
    }
      where
        given : IsTold (e.disks old.store) → AreTold t.components
        given told = where_told (e.disks old.store) (AreTold t.components) told ready.components

    components : u.components ≡ t.components
    components = ap (λ (s : PartState S D F W). (told_by e (beside s jobs)).components) b.begins.same

    pub started_keeps : (Failed First : Type 0) → IsCounted First (e.counts old.main) (e.counts new.main) → (Failed → First) → KeepsJobs e Failed (beside old jobs) (beside new (record jobs { merge = Some job }))
    started_keeps Failed First counted cause = record {
      jobs = is_out;
      moved = subst (λ (s : PartState S D F W). HasOnlyMoved old s) (sym b.begins.same) refl;
      untold = untold;
      tells = logs_tell_still its_name t u b.begins.made (ap (λ (s : PartState S D F W). e.history s.log.device) b.begins.same) (ap (λ (s : PartState S D F W). (told_by e (beside s jobs)).sealed_log) b.begins.same);
      devices = λ tells. b.devices;
      watched = main_watched e.counts Failed First (watched_part old jobs) (watched_part new now) counted
          (ap (λ (s : PartState S D F W). flusher_of s.flusher jobs.flush) b.begins.same) (b.begins.watch ∙ ap (λ o. merger_of old.merger o) (sym none)) cause;
    }

    -- of a part whose files are told
    module _ (p : PartView) (is : IsPart t p) (tells : TellsFiles t) where
      within : (2 ≤ (neighbours run).length) × ((neighbours run).first + (neighbours run).length ≤ length p.list)
      within = run_within e.content t p old.list run is refl lies

      pub target : (c : Content) × IsMerge (contents_in_run (neighbours run) p.list) c
      target = some_merge p (neighbours run) within

      begun : IsPart u (merging_part (neighbours run) target.0 p)
      begun = (b.begins.begun p target.0 is target.1).0

      device_named : its_name ≡ file_of target.0
      device_named = merge_device t u p (neighbours run) target.0 its_name is begun within.0 within.1 target.1 none_out tells.store b.begins.made

      pub merge_works : works_by e (beside old jobs) p → works_by e (beside new now) (merging_part (neighbours run) target.0 p)
      merge_works works = (
        works.0,
        record {
          merging = record { run = neighbours run; target = target.0 };
          is_out = refl;
          name = sym device_named ∙ sym b.begins.name;
          loaded = b.begins.loaded p is tells.components;
          is_merge = target.1;
          is_content = (swapped_replaces p.part (neighbours run) p.list target.0 is.memory.list target.1).content;
          device = subst (λ fs. IfTold fs (LeavesAt (IsShutOrHas (IsComponent target.0)))) (sym (b.begins.file ∙ ap (λ n. fresh_file_at n t.disks) device_named)) (fresh_merge_told t p (neighbours run) target.0 is within.0 within.1 target.1 none_out);
        },
      )

    pub started_well : MovesWell e (beside old jobs) (beside new now)
    started_well = record {
      sound = ap (λ (s : PartState S D F W). s.failed) b.begins.same ∙ sound;
      stays = record {
        stores = λ p is tells works.
            let m = target p is tells in
            let begun = b.begins.begun p m.0 is m.1 in
            job_stores (works_by e (beside new now)) t u p (merging_part (neighbours run) m.0 p) is tells.store (told_now t.disks (λ d. IsPart u (merging_part (neighbours run) m.0 p)) (λ told d. begun.0)) refl begun.1 refl (b.moments p m.0 is m.1)
            (ap (λ (s : PartState S D F W). s.taken) b.begins.same) (subst AreTold (sym components) tells.components) (merge_works p is tells works);
        ready = record { own = b.begins.own; components = components_still t u untold ready.components (λ told are_told. subst AreTold (sym components) are_told) };
        untold = untold;
      };
      log_out = b.begins.log_out;
    }

    pub started_moments : MomentsStay (works_by e (beside old jobs)) t (e.disks new.store)
    started_moments = λ p is tells works. let m = target p is tells in store_moments t p (merging_part (neighbours run) m.0 p) (e.disks new.store) refl (b.begins.begun p m.0 is m.1).1 (b.moments p m.0 is m.1)

    pub started_lists : (policy : Policy) → IsPicked policy (map (λ c. e.size c.file) old.list) run → ListsPicked e policy (beside old jobs) (beside new (record jobs { merge = Some job }))
    started_lists policy picked = record {
      listed = subst (λ (s : PartState S D F W). IsListedBy policy e.size old s) (sym b.begins.same) (listed_same policy e.size old (record old { store = new.store; main = new.main; merger = None; merging = Some (neighbours run) }) refl refl);
      picked = subst (λ xs. IsPickedOut policy e.size xs new.merging) (sym list) (subst (λ m. IsPickedOut policy e.size old.list m) (sym (ap (λ (s : PartState S D F W). s.merging) b.begins.same))
          (picked_of_all policy e.size old.list _ (subst (λ r. IsPicked policy (map (λ c. e.size c.file) old.list) r) (sym (sym (ap (λ (s : PartState S D F W). run_out s) b.begins.same) ∙ b.begins.out)) picked)));
    }

    pub started : IsCounted (IsErrOf below part.Disk) (e.counts old.main) (e.counts new.main) → Moves e (Ok tt) (beside old jobs) (beside new (record jobs { merge = Some job }))
    started counted = record {
      keeps = started_keeps _ _ counted (λ disk. absurd (cc));
      well = started_well;
      failed = tt;
      moments = started_moments;
      logs = (ap (λ (s : PartState S D F W). s.log) b.begins.same, ap (λ (s : PartState S D F W). s.generation) b.begins.same);
      sealed_log = inl (ap (λ (s : PartState S D F W). s.sealed_log) b.begins.same);
      damaged = tt;
      undamaged = λ p is tells works. tt;
      unspent = λ spent. absurd (cc);
    }
