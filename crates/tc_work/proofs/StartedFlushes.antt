-- A flush of a part that was begun, and is out: what stays.
use Rattle.std.proofs.Common.{◌≡◌, ◌∙◌, ◌+◌, ◌-◌, Bool, true, false, List, [], ◌∷◌, Option, Some, None, length, is_some, refl, sym, ap, subst, arith, inl}
use Rattle.std.specs.Prelude.{Result, Ok, IsErrOf}
use Rattle.tc_flush.specs.Jobs as flush
use Rattle.tc_lsm_model.specs.Lists.{last_of}
use Rattle.tc_list.specs.declared.policy.Policy.{Policy}
use Rattle.tc_machine.specs.State.{Sealed, flush_name, flushing_of, sealed_logs}
use Rattle.tc_machine.specs.Steps.{IsFlushed, IsShutOrHas}
use Rattle.tc_part.specs.declared.fault.PartFault.{PartFault}
use Rattle.tc_part.specs.declared.fault.PartFault.TheVariants as part
use Rattle.tc_part.specs.Begun.{BeginsFlush}
use Rattle.tc_part.specs.FilesOut.{OnlyDevicesOut}
use Rattle.tc_part_model.specs.Changes.{flushing_part}
use Rattle.tc_part_model.specs.Leaving.{StoreMomentsLeaveStore}
use Rattle.tc_part_model.specs.Meaning.{IsPart}
use Rattle.tc_part_model.specs.PartState.{PartState, Told, AreTold, IsTold}
use Rattle.tc_part_model.specs.PartView.{PartView, state_of}
use Rattle.tc_part_model.proofs.BegunParts.{sealed_found}
use Rattle.tc_running.specs.Jobs.{JobsState}
use Rattle.tc_store.specs.Counted.{IsCounted}
use Rattle.tc_store.specs.declared.file_name.FileName.{FileName}
use Rattle.tc_store.specs.declared.file_name.FileName.TheVariants.{Component}
use Rattle.tc_store.specs.Disk.{Disk}
use Rattle.tc_store.specs.Moments.{IfTold, LeavesAt}
use Rattle.tc_store.specs.StoreCalls.{makes}
use Rattle.tc_work.specs.JobsOut.{IsFlushOf, IsPickedOut, OutAs, flusher_of, merger_of, watched_part}
use Rattle.tc_work.specs.Moving.{Eyes, beside, told_by, works_by, IsOutBy, IsPickedBy, KeepsJobs, ListsPicked, Moves, MovesWell}
use Rattle.tc_work.specs.Settling.{HasOnlyMoved, IsListedBy, MaySettle, MomentsStay, TellsFiles}
use Rattle.tc_work.proofs.FilesOut.{logs_tell_still}
use Rattle.tc_work.proofs.FreshDevices.{fresh_flush_told}
use Rattle.tc_work.proofs.JobEnds.{job_stores}
use Rattle.tc_work.proofs.KeptJobs.{merge_out_still}
use Rattle.tc_work.proofs.PickedMerges.{listed_same}
use Rattle.tc_work.proofs.Settled.{components_still, told_now, GoesOnUntold}
use Rattle.tc_work.proofs.StoredMoments.{store_moments}
use Rattle.tc_work.proofs.Watches.{main_watched}

-- where none is out there is none
pub none_there : {J : Type 0} (o : Option J) (P : J → Type 0) (b : Bool) → b ≡ false → OutAs b o P → o ≡ None
none_there None P b out is = refl
none_there (Some job) P b out is = absurd (subst (λ x. OutAs x (Some job) P) out is)

-- where a store tells, the one did in which a file was just made
pub made_there : (name : FileName) (disks now : List Disk) → now ≡ makes name disks → IfTold now (λ disk. IsTold disks)
made_there name [] now is = subst (λ ds. IfTold ds (λ disk. IsTold {X = Disk} [])) (sym is) tt
made_there name (disk ∷ past) now is = told_now now (λ d. IsTold (disk ∷ past)) (λ tells d. tt)

module _ {S D F W X : Type 0} (e : Eyes S D F W) (old new : PartState S D F W) (jobs : JobsState F D W) (job : flush.JobState D W) (below : Result X PartFault) where
  abbrev t : Told
  t = told_by e (beside old jobs)

  abbrev u : Told
  u = told_by e (beside new jobs)

  abbrev now : JobsState F D W
  now = record jobs { flush = Some job }

  abbrev its_name : FileName
  its_name = Component (old.generation - 1) (old.generation - 1)

  -- what the call of the part promises
  pub record HasBegun : Type 0 where
    pub begins : BeginsFlush e.disks e.history e.content e.name_of job old new
    pub moments : (p : PartView) → IsPart t p → StoreMomentsLeaveStore p (flushing_part p) t (e.disks new.store)
    pub devices : OnlyDevicesOut t → OnlyDevicesOut u

  module _ (b : HasBegun) (sound : old.failed ≡ false) (none_out : old.flushing ≡ false) (both : is_some old.sealed_log ≡ true) (ready : MaySettle t) (out : IsOutBy e (beside old jobs)) where
    untold : GoesOnUntold (e.disks old.store) (e.disks new.store)
    untold none = b.begins.made ∙ ap (makes its_name) none

    none : jobs.flush ≡ None
    none = none_there jobs.flush (IsFlushOf e.disks e.history e.name_of old) old.flushing none_out out.flush

    is_out : IsOutBy e (beside new now)
    is_out = record {
      flush = subst (λ (s : PartState S D F W). OutAs s.flushing (Some job) (IsFlushOf e.disks e.history e.name_of s)) (sym b.begins.same)
          (record { table = b.begins.table; log = both; lawful = b.begins.lawful; head = b.begins.head; name = b.begins.name; device = record { was = e.disks old.store; made = b.begins.file; told = made_there its_name (e.disks old.store) (e.disks new.store) b.begins.made } });
      merge = merge_out_still e.disks e.history e.content e.name_of old new untold jobs.merge
          (subst (λ (s : PartState S D F W). s ≡ record old {
            store = s.store;
            main = s.main;
            flusher = s.flusher;
            sealed = s.sealed;
            sealed_log = s.sealed_log;
            active = s.active;
            log = s.log;
            generation = s.generation;
            taken = s.taken;
            live = s.live;
            writes = s.writes;
            staged = s.staged;
            flushing = s.flushing;
            failed = s.failed;
          }) (sym b.begins.same) refl)
          out.merge;
    }

    components : u.components ≡ t.components
    components = ap (λ (s : PartState S D F W). (told_by e (beside s jobs)).components) b.begins.same

    pub started_keeps : (Failed First : Type 0) → IsCounted First (e.counts old.main) (e.counts new.main) → (Failed → First) → KeepsJobs e Failed (beside old jobs) (beside new (record jobs { flush = Some job }))
    started_keeps Failed First counted cause = record {
      jobs = is_out;
      moved = subst (λ (s : PartState S D F W). HasOnlyMoved old s) (sym b.begins.same) refl;
      untold = untold;
      tells = logs_tell_still its_name t u b.begins.made (ap (λ (s : PartState S D F W). e.history s.log.device) b.begins.same) (ap (λ (s : PartState S D F W). (told_by e (beside s jobs)).sealed_log) b.begins.same);
      devices = λ tells. b.devices;
      watched = main_watched e.counts Failed First (watched_part old jobs) (watched_part new now) counted
          (b.begins.watch ∙ ap (λ o. flusher_of old.flusher o) (sym none)) (ap (λ (s : PartState S D F W). merger_of s.merger jobs.merge) b.begins.same) cause;
    }

    -- of a part whose files are told
    module _ (p : PartView) (is : IsPart t p) (tells : TellsFiles t) where
      found : (d : Sealed) × (p.sealed ≡ Some d) × (length d.logs ≡ 1)
      found = sealed_found t p is job.kept (sym b.begins.table)

      named : flush_name (flushing_of (state_of p)) ≡ its_name
      named =
          let one : length (sealed_logs p.sealed) ≡ 1 = ap (λ o. length (sealed_logs o)) found.1 ∙ found.2 in
          ap (λ n. Component n (last_of p.list + length (sealed_logs p.sealed))) (omega (arith, is.view.generation, one)) ∙ ap (λ n. Component (old.generation - 1) n) (omega (arith, is.view.generation, one))

      pub flush_works : works_by e (beside old jobs) p → works_by e (beside new now) (flushing_part p)
      flush_works works =
          let behind = b.begins.behind p is tells.components in (
            record {
              flushing = flushing_of (state_of p);
              is_out = refl;
              name = named ∙ sym b.begins.name;
              table = behind.sealed;
              is_sealed = behind.is_sealed;
              one_log = behind.one_log;
              here = behind.here;
              behind = behind.behind;
              device = subst (λ fs. IfTold fs (LeavesAt (IsShutOrHas (IsFlushed p.part p.list p.sealed)))) (sym b.begins.file) (fresh_flush_told t p job.kept is (sym b.begins.table) none_out);
            },
            works.1,
          )

    pub started_well : MovesWell e (beside old jobs) (beside new now)
    started_well = record {
      sound = ap (λ (s : PartState S D F W). s.failed) b.begins.same ∙ sound;
      stays = record {
        stores = λ p is tells works. job_stores (works_by e (beside new now)) t u p (flushing_part p) is tells.store (told_now t.disks (λ d. IsPart u (flushing_part p)) (λ told d. (b.begins.begun p is).0)) refl (b.begins.begun p is).1 refl (b.moments p is)
            (ap (λ (s : PartState S D F W). s.taken) b.begins.same) (subst AreTold (sym components) tells.components) (flush_works p is tells works);
        ready = record { own = b.begins.own; components = components_still t u untold ready.components (λ told are_told. subst AreTold (sym components) are_told) };
        untold = untold;
      };
      log_out = b.begins.log_out;
    }

    pub started_moments : MomentsStay (works_by e (beside old jobs)) t (e.disks new.store)
    started_moments = λ p is tells works. store_moments t p (flushing_part p) (e.disks new.store) refl (b.begins.begun p is).1 (b.moments p is)

    pub started_lists : (policy : Policy) → IsPickedBy e policy (beside old jobs) → ListsPicked e policy (beside old jobs) (beside new (record jobs { flush = Some job }))
    started_lists policy picked = record {
      listed = subst (λ (s : PartState S D F W). IsListedBy policy e.size old s) (sym b.begins.same) (listed_same policy e.size old (record old { store = new.store; main = new.main; flusher = None; flushing = true }) refl refl);
      picked = subst (λ (s : PartState S D F W). IsPickedOut policy e.size s.list s.merging) (sym b.begins.same) picked;
    }

    pub started : IsCounted (IsErrOf below part.Disk) (e.counts old.main) (e.counts new.main) → Moves e (Ok tt) (beside old jobs) (beside new (record jobs { flush = Some job }))
    started counted = record {
      keeps = started_keeps _ _ counted (λ disk. absurd (cc));
      well = started_well;
      failed = tt;
      moments = started_moments;
      logs = (ap (λ (s : PartState S D F W). s.log) b.begins.same, ap (λ (s : PartState S D F W). s.generation) b.begins.same);
      sealed_log = inl (ap (λ (s : PartState S D F W). s.sealed_log) b.begins.same);
      damaged = tt;
      undamaged = λ p is tells works. tt;
      unspent = λ spent. absurd (cc);
    }
