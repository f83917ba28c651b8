-- A part whose active table is sealed: its next log, and what stays.
use Rattle.std.proofs.Common.{◌≡◌, ◌∙◌, ◌+◌, ℕ, List, [], ◌∷◌, true, false, None, length, refl, sym, ap, subst, arith, length-append}
use Rattle.std.specs.Prelude.{◌^◌, IfSome, IsErrOf, Result, Ok, Err}
use Rattle.tc_list.specs.declared.policy.Policy.{Policy}
use Rattle.tc_store.specs.Counted.{IsCounted}
use Rattle.tc_store.specs.StoreCalls.{makes}
use Rattle.tc_store.specs.declared.file_name.FileName.TheVariants.{Log}
use Rattle.tc_store.specs.DiskFile.{DiskFile}
use Rattle.tc_machine.specs.State.{logs, sealed_logs}
use Rattle.tc_part_model.specs.Leaving.{NextLogMoments, StoreMomentsLeaveStore}
use Rattle.tc_part_model.specs.Meaning.{HasFailedAs, IsPart}
use Rattle.tc_part.specs.declared.fault.PartFault.{PartFault}
use Rattle.tc_part.specs.declared.fault.PartFault.TheVariants as part
use Rattle.tc_part.specs.Begun.{SealsTable}
use Rattle.tc_part.specs.Faults.{IsUndamaged}
use Rattle.tc_part.specs.FilesOut.{LogIsOut, OnlyDevicesOut, TellsLogs}
use Rattle.tc_part_model.specs.Changes.{sealed_part}
use Rattle.tc_part_model.specs.PartState.{PartState, Told, AreTold, IsTold}
use Rattle.tc_part_model.specs.PartView.{PartView, next_of, state_of}
use Rattle.tc_running.specs.Jobs.{JobsState}
use Rattle.tc_store.specs.Moments.{IfTold}
use Rattle.tc_work.specs.declared.fault.EngineFault.{EngineFault}
use Rattle.tc_work.specs.JobsOut.{FlushesFor, IsFlushOf, IsPickedOut, OutAs, flusher_of, merger_of, watched_part}
use Rattle.tc_work.specs.Moving.{Eyes, beside, told_by, works_by, IsOutBy, IsPickedBy, KeepsJobs, ListsPicked, MovesOver, MovesWell}
use Rattle.tc_work.specs.Settling.{HasOnlyMoved, MaySettle, NextLogs, TellsFiles, waiting}
use Rattle.tc_work.proofs.HandedFaults.{IsOf, disk_below, spent_below, undamaged_so}
use Rattle.tc_work.proofs.JobEnds.{makes_tells}
use Rattle.tc_work.proofs.JobsGoOn.{told_still}
use Rattle.tc_work.proofs.KeptJobs.{merge_out_still}
use Rattle.tc_work.proofs.MovingCalls.{err_of}
use Rattle.tc_work.proofs.OnResults.{on_err_only}
use Rattle.tc_work.proofs.PickedMerges.{listed_same}
use Rattle.tc_work.proofs.Settled.{components_still, failed_keeps, still, GoesOnUntold}
use Rattle.tc_work.proofs.StartedFlushes.{none_there}
use Rattle.tc_work.proofs.StayingStores.{moments_before}
use Rattle.tc_work.proofs.StoredMoments.{store_moments}
use Rattle.tc_work.proofs.Watches.{main_watched}
use Rattle.tc_work.proofs.Windows.{err_always}

-- the next log of a part is that of the generation behind its own
pub next_logs_of : (t : Told) (p : PartView) (log : List DiskFile) → IsPart t p → NextLogMoments p log → NextLogs p.part (t.generation + 1) log
next_logs_of t p log is moments =
    let all : length (logs (state_of p)) ≡ length (sealed_logs p.sealed) + 1 = length-append (sealed_logs p.sealed) (p.active.writes ∷ []) in
    let next : next_of p ≡ t.generation + 1 = omega (arith, is.view.generation, all) in
    subst (λ (n : ℕ). NextLogs p.part n log) next moments

module _ {S D F W X : Type 0} (e : Eyes S D F W) (old new : PartState S D F W) (jobs : JobsState F D W) (below : Result X PartFault) where
  abbrev t : Told
  t = told_by e (beside old jobs)

  abbrev u : Told
  u = told_by e (beside new jobs)

  -- what the call of the part promises
  pub record HasSealed : Type 0 where
    pub seals : SealsTable e.disks e.history e.content old new
    pub tells : TellsLogs t → TellsLogs u
    pub devices : OnlyDevicesOut t → OnlyDevicesOut u
    pub moments : (p : PartView) → IsPart t p → StoreMomentsLeaveStore p p t (e.disks new.store)

  module _ (s : HasSealed) (sound : old.failed ≡ false) (none_out : old.flushing ≡ false) (none_sealed : old.sealed ≡ None) (ready : MaySettle t) (out : IsOutBy e (beside old jobs)) where
    untold : GoesOnUntold (e.disks old.store) (e.disks new.store)
    untold none = s.seals.made ∙ ap (makes (Log (old.generation + 1))) none

    none : jobs.flush ≡ None
    none = none_there jobs.flush (IsFlushOf e.disks e.history e.name_of old) old.flushing none_out out.flush

    components : u.components ≡ t.components
    components = ap (λ (x : PartState S D F W). (told_by e (beside x jobs)).components) s.seals.same

    pub sealed_tells : TellsFiles t → TellsFiles u
    sealed_tells tells = record { store = subst (λ ds. IsTold ds) (sym s.seals.made) (makes_tells (Log (old.generation + 1)) t.disks tells.store); components = subst (λ cs. AreTold cs) (sym components) tells.components }

    pub sealed_keeps : (Failed First : Type 0) → IsCounted First (e.counts old.main) (e.counts new.main) → (Failed → First) → KeepsJobs e Failed (beside old jobs) (beside new jobs)
    sealed_keeps Failed First counted cause = record {
      jobs = record {
        flush = subst (λ b. OutAs b jobs.flush (IsFlushOf e.disks e.history e.name_of new)) (sym (ap (λ (x : PartState S D F W). x.flushing) s.seals.same ∙ none_out)) (subst (λ o. OutAs false o (IsFlushOf e.disks e.history e.name_of new)) (sym none) tt);
        merge = merge_out_still e.disks e.history e.content e.name_of old new untold jobs.merge
            (subst (λ (x : PartState S D F W). x ≡ record old {
              store = x.store;
              main = x.main;
              flusher = x.flusher;
              sealed = x.sealed;
              sealed_log = x.sealed_log;
              active = x.active;
              log = x.log;
              generation = x.generation;
              taken = x.taken;
              live = x.live;
              writes = x.writes;
              staged = x.staged;
              flushing = x.flushing;
              failed = x.failed;
            }) (sym s.seals.same) refl)
            out.merge;
      };
      moved = subst (λ (x : PartState S D F W). HasOnlyMoved old x) (sym s.seals.same) refl;
      untold = untold;
      tells = s.tells;
      devices = λ tells. s.devices;
      watched = main_watched e.counts Failed First (watched_part old jobs) (watched_part new jobs) counted (ap (λ (x : PartState S D F W). flusher_of x.flusher jobs.flush) s.seals.same) (ap (λ (x : PartState S D F W). merger_of x.merger jobs.merge) s.seals.same) cause;
    }

    -- the jobs go on to work: no flush is out
    pub sealed_works : (p : PartView) → works_by e (beside old jobs) p → works_by e (beside new jobs) (sealed_part p)
    sealed_works p works = (subst (λ o. IfSome o (FlushesFor e.history e.name_of p.part p.list (sealed_part p).sealed p.flush)) (sym none) tt, works.1)

    pub sealed_well : MovesWell e (beside old jobs) (beside new jobs)
    sealed_well = record {
      sound = ap (λ (x : PartState S D F W). x.failed) s.seals.same ∙ sound;
      stays = record {
        stores = λ p is tells works. still (works_by e (beside new jobs)) t u p (sealed_part p) (s.seals.sealed p is).0 refl (s.seals.sealed p is).1 refl (ap (λ (x : PartState S D F W). x.taken) s.seals.same) (sealed_tells tells) (sealed_works p works);
        ready = record { own = s.seals.own; components = components_still t u untold ready.components (λ told are_told. subst (λ cs. AreTold cs) (sym components) are_told) };
        untold = untold;
      };
      log_out = λ is. s.seals.log_out;
    }

    pub sealed_lists : (policy : Policy) → IsPickedBy e policy (beside old jobs) → ListsPicked e policy (beside old jobs) (beside new jobs)
    sealed_lists policy picked = record {
      listed = listed_same policy e.size old new (ap (λ (x : PartState S D F W). x.list) s.seals.same) tables;
      picked = subst (λ (x : PartState S D F W). IsPickedOut policy e.size x.list x.merging) (sym s.seals.same) picked;
    }
      where
        tables : waiting new.sealed + old.generation ≡ waiting old.sealed + new.generation
        tables =
            let was : waiting old.sealed ≡ 0 = ap (λ o. waiting o) none_sealed in
            let is : waiting new.sealed ≡ 1 = ap (λ (x : PartState S D F W). waiting x.sealed) s.seals.same in
            let next : new.generation ≡ old.generation + 1 = ap (λ (x : PartState S D F W). x.generation) s.seals.same in
            omega (arith, was, is, next)

    pub sealed : IsCounted (IsErrOf below part.Disk) (e.counts old.main) (e.counts new.main) → MovesOver e (Ok tt) (beside old jobs) (beside new jobs)
    sealed counted = record {
      keeps = sealed_keeps _ _ counted (λ disk. absurd (cc));
      well = sealed_well;
      failed = tt;
      moments = moments_before (works_by e (beside old jobs)) t (e.history new.log.device) (e.disks new.store) (λ p is tells works. store_moments t p p (e.disks new.store) refl refl (s.moments p is));
      next_log = λ p is works next. subst (λ n. NextLogs p.part n (e.history new.log.device)) (sym (ap (λ (x : PartState S D F W). x.generation) s.seals.same)) (next_logs_of t p (e.history new.log.device) is (s.seals.next_log p is));
      untold_log = λ none next. s.seals.untold_log none;
      damaged = tt;
      undamaged = λ p is tells works. tt;
      spent = λ spent. absurd (cc);
      unmoved = λ spent. absurd (cc);
      log_out_spent = λ spent. absurd (cc);
    }

  -- ---- where it is not sealed

  module _ (left : new ≡ record old { store = new.store; main = new.main; sealed = new.sealed; active = new.active; failed = true }) (none_out : old.flushing ≡ false) (out : IsOutBy e (beside old jobs)) (still_untold : e.disks old.store ≡ [] → e.disks new.store ≡ []) where
    pub unsealed_keeps : (OnlyDevicesOut t → OnlyDevicesOut u) → (Failed First : Type 0) → IsCounted First (e.counts old.main) (e.counts new.main) → (Failed → First) → KeepsJobs e Failed (beside old jobs) (beside new jobs)
    unsealed_keeps devices Failed First counted cause = record {
      jobs = record {
        flush = subst (λ b. OutAs b jobs.flush (IsFlushOf e.disks e.history e.name_of new)) (sym (ap (λ (x : PartState S D F W). x.flushing) left ∙ none_out))
            (subst (λ o. OutAs false o (IsFlushOf e.disks e.history e.name_of new)) (sym (none_there jobs.flush (IsFlushOf e.disks e.history e.name_of old) old.flushing none_out out.flush)) tt);
        merge = merge_out_still e.disks e.history e.content e.name_of old new still_untold jobs.merge
            (subst (λ (x : PartState S D F W). x ≡ record old {
              store = x.store;
              main = x.main;
              flusher = x.flusher;
              sealed = x.sealed;
              sealed_log = x.sealed_log;
              active = x.active;
              log = x.log;
              generation = x.generation;
              taken = x.taken;
              live = x.live;
              writes = x.writes;
              staged = x.staged;
              flushing = x.flushing;
              failed = x.failed;
            }) (sym left) refl)
            out.merge;
      };
      moved = subst (λ (x : PartState S D F W). HasOnlyMoved old x) (sym left) refl;
      untold = still_untold;
      tells = λ told. record {
        active = told_still (e.disks old.store) (e.disks new.store) _ still_untold (subst (λ (x : PartState S D F W). IfTold (e.disks old.store) (λ disk. IsTold (e.history x.log.device))) (sym left) told.active);
        sealed = told_still (e.disks old.store) (e.disks new.store) _ still_untold (subst (λ (x : PartState S D F W). IfTold (e.disks old.store) (λ disk. IfSome (told_by e (beside x jobs)).sealed_log (λ moments. IsTold moments))) (sym left) told.sealed);
      };
      devices = λ tells. devices;
      watched = main_watched e.counts Failed First (watched_part old jobs) (watched_part new jobs) counted (ap (λ (x : PartState S D F W). flusher_of x.flusher jobs.flush) left) (ap (λ (x : PartState S D F W). merger_of x.merger jobs.merge) left) cause;
    }

    pub unsealed : (r : Result (Unit {0}) EngineFault) (fault : PartFault) → IsOf r fault → below ≡ Err fault → (OnlyDevicesOut t → OnlyDevicesOut u) → IsCounted (IsErrOf below part.Disk) (e.counts old.main) (e.counts new.main)
        → ((p : PartView) → IsPart t p → HasFailedAs u p None) → ((p : PartView) → IsPart t p → StoreMomentsLeaveStore p p t (e.disks new.store)) → IsUndamaged fault → (IsErrOf below part.Spent → old.generation + 1 ≡ 2 ^ 63) → (IsErrOf below part.Spent → new.store ≡ old.store)
        → MovesOver e r (beside old jobs) (beside new jobs)
    unsealed r fault is was devices counted fails moments undamaged spent unspent = record {
      keeps = unsealed_keeps devices _ _ counted (disk_below r below fault is was);
      well = on_err_only r _ _ (err_of r fault is);
      failed = err_always r _ (λ p of tells works. failed_keeps (works_by e (beside old jobs)) t u p p of refl refl (fails p of) (ap (λ (x : PartState S D F W). x.generation) left) (ap (λ (x : PartState S D F W). (told_by e (beside x jobs)).sealed_log) left) works);
      moments = moments_before (works_by e (beside old jobs)) t (e.history new.log.device) (e.disks new.store) (λ p of tells works. store_moments t p p (e.disks new.store) refl refl (moments p of));
      next_log = λ p of works next. absurd (omega (arith, next, ap (λ (x : PartState S D F W). x.generation) left));
      untold_log = λ none next. absurd (omega (arith, next, ap (λ (x : PartState S D F W). x.generation) left));
      damaged = undamaged_so r fault _ is undamaged;
      undamaged = λ p of tells works. undamaged_so r fault _ is undamaged;
      spent = λ failed. spent (spent_below r below fault is was failed);
      unmoved = λ failed. ap (λ (x : PartState S D F W). x.generation) left;
      log_out_spent = λ failed out.
          let store = unspent (spent_below r below fault is was failed) in
          subst (λ (x : PartState S D F W). LogIsOut (told_by e (beside x jobs))) (sym left) (subst (λ x. LogIsOut (record t { disks = e.disks x })) (sym store) out);
    }
