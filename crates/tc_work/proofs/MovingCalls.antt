-- Calls that move documents by jobs, one after another.
use Rattle.std.proofs.Common.{◌≡◌, ◌∙◌, ◌+◌, true, List, [], ◌∷◌, Option, Some, None, refl, sym, ap, subst, arith, inl, inr}
use Rattle.std.specs.Prelude.{◌⊎◌, Result, Ok, Err, IfErr, IsErrAnd, IsErrOf}
use Rattle.std.proofs.lemmas.List.Elements.{All-nil}
use Rattle.std.proofs.lemmas.Result.{err_from_is_err_and}
use Rattle.tc_flush.proofs.Outcomes.{ok_then}
use Rattle.tc_log.specs.Appending.{LogState}
use Rattle.tc_part.specs.declared.fault.PartFault.{PartFault}
use Rattle.tc_part.specs.declared.fault.PartFault.TheVariants as part
use Rattle.tc_part.specs.FilesOut.{OnlyDevicesOut}
use Rattle.tc_part_model.specs.Meaning.{HasFailedAs, IsPart}
use Rattle.tc_part_model.specs.PartFiles.{IsSealedFile}
use Rattle.tc_part_model.specs.PartState.{PartState, AreTold, IsTold}
use Rattle.tc_part_model.specs.PartView.{PartView}
use Rattle.tc_running.specs.Jobs.{JobsState}
use Rattle.tc_store.specs.Counted.{IsCounted}
use Rattle.tc_store.specs.Disk.{Disk}
use Rattle.tc_store.specs.DiskFile.{DiskFile}
use Rattle.tc_work.specs.declared.fault.EngineFault.{EngineFault}
use Rattle.tc_work.specs.declared.fault.EngineFault.TheVariants as engine
use Rattle.tc_work.specs.Damage.{IsPartDamage}
use Rattle.tc_work.specs.Faults.{of_part, IfDamaged}
use Rattle.tc_work.specs.Moving.{Eyes, Working, beside, told_by, works_by, IsOutBy, MayMove, Moves, MovesOver, MovesWell}
use Rattle.tc_work.specs.Settling.{MomentsStay, MomentsStayOver, NextLogs, TellsFiles}
use Rattle.tc_work.proofs.HandedFaults.{IsOf, disk_below, spent_below}
use Rattle.tc_work.proofs.KeptJobs.{keeps_same, keeps_then, keeps_unless_failed, well_then}
use Rattle.tc_work.proofs.OnResults.{on_err, on_err_only}
use Rattle.tc_work.proofs.Settled.{failed_keeps}
use Rattle.tc_work.proofs.StayingStores.{fails_as_it_was, fails_then, moments_before, moments_over, moments_then, moments_then_over, stays_as_it_was}
use Rattle.tc_work.proofs.StoredMoments.{no_moments, where_told}
use Rattle.tc_work.proofs.Windows.{err_always}

-- the fault of a call is the one that it was handed
pub err_is : {X : Type 0} (r : Result X EngineFault) (fault : EngineFault) → IsErrAnd r (λ f. f ≡ fault) → r ≡ Err fault
err_is r fault is = let found = err_from_is_err_and r is in found.1 ∙ ap Err found.2

pub err_of : {X : Type 0} (r : Result X EngineFault) (fault : PartFault) → IsOf r fault → r ≡ Err (of_part fault)
err_of r fault is = err_is r (of_part fault) is

-- ---- one call

module _ {S D F W : Type 0} (e : Eyes S D F W) (w : Working S D F W) where
  -- nothing was done
  pub moves_nothing : MayMove e w → Moves e (Ok tt) w w
  moves_nothing may = record {
    keeps = keeps_same e w _ may.jobs (λ disk. absurd (cc));
    well = well_as_it_was may;
    failed = tt;
    moments = λ p is tells works. no_moments _ _ (told_by e w);
    logs = (refl, refl);
    sealed_log = inl refl;
    damaged = tt;
    undamaged = λ p is tells works. tt;
    unspent = λ spent. absurd (cc);
  }
    where
      well_as_it_was : MayMove e w → MovesWell e w w
      well_as_it_was m = record { sound = m.sound; stays = stays_as_it_was (works_by e w) (told_by e w) m.ready; log_out = λ out. out }

  -- or there was no memory for it
  pub moves_not : MayMove e w → ((p : PartView) → IsPart (told_by e w) p → HasFailedAs (record (told_by e w) { failed = true }) p None) → (r : Result (Unit {0}) EngineFault) → r ≡ Err engine.Memory → Moves e r w w
  moves_not may fails r is = subst (λ x. Moves e x w w) (sym is) (record {
    keeps = keeps_same e w _ may.jobs (λ disk. absurd (cc));
    well = tt;
    failed = fails_as_it_was (works_by e w) (told_by e w) fails;
    moments = λ p is tells works. no_moments _ _ (told_by e w);
    logs = (refl, refl);
    sealed_log = inl refl;
    damaged = tt;
    undamaged = λ p is tells works. tt;
    unspent = λ spent. absurd (cc);
  })

-- a call of the part failed before it began a job
module _ {S D F W X : Type 0} (e : Eyes S D F W) (old new : PartState S D F W) (jobs : JobsState F D W) (r : Result (Unit {0}) EngineFault) (below : Result X PartFault) (fault : PartFault) (is : IsOf r fault) (was : below ≡ Err fault) where
  pub moves_failed : IsOutBy e (beside old jobs) → new ≡ record old { store = new.store; main = new.main; failed = true } → (e.disks old.store ≡ [] → e.disks new.store ≡ []) → (OnlyDevicesOut (told_by e (beside old jobs)) → OnlyDevicesOut (told_by e (beside new jobs)))
      → IsCounted (IsErrOf below part.Disk) (e.counts old.main) (e.counts new.main) → ((p : PartView) → IsPart (told_by e (beside old jobs)) p → HasFailedAs (told_by e (beside new jobs)) p None) → MomentsStay (works_by e (beside old jobs)) (told_by e (beside old jobs)) (e.disks new.store)
      → IfErr r (λ f. IfDamaged f (IsPartDamage e.content e.history new)) → ((p : PartView) → IsPart (told_by e (beside old jobs)) p → TellsFiles (told_by e (beside old jobs)) → IfErr r (λ f. IfDamaged f (λ damage. ⊥))) → (IsErrOf below part.Spent → ⊥)
      → Moves e r (beside old jobs) (beside new jobs)
  moves_failed out left untold devices counted fails moments damaged undamaged unspent = record {
    keeps = keeps_unless_failed e old new jobs _ _ out (subst (λ (s : PartState S D F W). s ≡ record old { store = s.store; main = s.main; failed = s.failed }) (sym left) refl) untold devices counted (disk_below r below fault is was);
    well = on_err_only r _ _ (err_of r fault is);
    failed = err_always r _ (λ p of tells works. failed_keeps (works_by e (beside old jobs)) (told_by e (beside old jobs)) (told_by e (beside new jobs)) p p of refl
        refl (fails p of) (ap (λ (s : PartState S D F W). s.generation) left) (ap (λ (s : PartState S D F W). (told_by e (beside s jobs)).sealed_log) left) works);
    moments = moments;
    logs = (ap (λ (s : PartState S D F W). s.log) left, ap (λ (s : PartState S D F W). s.generation) left);
    sealed_log = inl (ap (λ (s : PartState S D F W). s.sealed_log) left);
    damaged = damaged;
    undamaged = λ p of tells works. undamaged p of tells;
    unspent = λ spent. unspent (spent_below r below fault is was spent);
  }

-- ---- two calls

module _ {S D F W : Type 0} (e : Eyes S D F W) (old mid new : Working S D F W) where
  -- the next call may be made
  pub may_then : Moves e (Ok tt) old mid → MayMove e mid
  may_then one = record { sound = one.well.sound; ready = one.well.stays.ready; jobs = one.keeps.jobs }

  pub may_over : MovesOver e (Ok tt) old mid → MayMove e mid
  may_over one = record { sound = one.well.sound; ready = one.well.stays.ready; jobs = one.keeps.jobs }

  -- its fault is handed on
  pub moves_err : (r below : Result (Unit {0}) EngineFault) (fault : EngineFault) → IsErrAnd r (λ f. f ≡ fault) → below ≡ Err fault → Moves e below old mid → Moves e r old mid
  moves_err r below fault is was moves = subst (λ x. Moves e x old mid) (was ∙ sym (err_is r fault is)) moves

  pub over_err : (r below : Result (Unit {0}) EngineFault) (fault : EngineFault) → IsErrAnd r (λ f. f ≡ fault) → below ≡ Err fault → MovesOver e below old mid → MovesOver e r old mid
  over_err r below fault is was moves = subst (λ x. MovesOver e x old mid) (was ∙ sym (err_is r fault is)) moves

  pub sealed_still : (mid.part.sealed_log ≡ old.part.sealed_log) ⊎ (mid.part.sealed_log ≡ None) → (g : DiskFile) → IsSealedFile (told_by e old).sealed_log g → IsSealedFile (told_by e mid).sealed_log g
  sealed_still (inl same) g is = subst (λ (o : Option (LogState D)). IsSealedFile (told_by e (record old { part = record old.part { sealed_log = o } })).sealed_log g) (sym same) is
  sealed_still (inr none) g is = subst (λ (o : Option (LogState D)). IsSealedFile (told_by e (record old { part = record old.part { sealed_log = o } })).sealed_log g) (sym none) tt

  pub moves_then : (r : Result (Unit {0}) EngineFault) → Moves e (Ok tt) old mid → Moves e r mid new → Moves e r old new
  moves_then r one two = record {
    keeps = keeps_then e old mid new _ _ _ one.keeps two.keeps (λ failed. failed);
    well = ok_then r _ _ (λ second. well_then e old mid new one.well second) two.well;
    failed = on_err r _ _ (λ fails. fails_then (works_by e old) (works_by e mid) (works_by e new) (told_by e old) (told_by e mid) (told_by e new) one.well.stays fails) two.failed;
    moments = moments_then (works_by e old) (works_by e mid) (told_by e old) (told_by e mid) (e.disks new.part.store) (ap (λ l. e.history l.device) one.logs.0) (sealed_still one.sealed_log) one.well.stays one.moments two.moments;
    logs = (two.logs.0 ∙ one.logs.0, two.logs.1 ∙ one.logs.1);
    sealed_log = sealed_then one.sealed_log two.sealed_log;
    damaged = two.damaged;
    undamaged = λ p is tells works. let first = one.well.stays.stores p is tells works in two.undamaged first.view first.is first.tells first.jobs;
    unspent = two.unspent;
  }
    where
      sealed_then : (mid.part.sealed_log ≡ old.part.sealed_log) ⊎ (mid.part.sealed_log ≡ None) → (new.part.sealed_log ≡ mid.part.sealed_log) ⊎ (new.part.sealed_log ≡ None) → (new.part.sealed_log ≡ old.part.sealed_log) ⊎ (new.part.sealed_log ≡ None)
      sealed_then first (inr none) = inr none
      sealed_then (inl before) (inl same) = inl (same ∙ before)
      sealed_then (inr none) (inl same) = inr (same ∙ none)

  -- the table is sealed by the second, or by the first
  pub then_over : (r : Result (Unit {0}) EngineFault) → MayMove e old → Moves e (Ok tt) old mid → MovesOver e r mid new → MovesOver e r old new
  then_over r may one two = record {
    keeps = keeps_then e old mid new _ _ _ one.keeps two.keeps (λ failed. failed);
    well = ok_then r _ _ (λ second. well_then e old mid new one.well second) two.well;
    failed = on_err r _ _ (λ fails. fails_then (works_by e old) (works_by e mid) (works_by e new) (told_by e old) (told_by e mid) (told_by e new) one.well.stays fails) two.failed;
    moments = moments_then_over (works_by e old) (works_by e mid) (told_by e old) (told_by e mid) (e.history new.part.log.device) (e.disks new.part.store) (ap (λ l. e.history l.device) one.logs.0) (sealed_still one.sealed_log) one.well.stays one.moments two.moments;
    next_log = λ p is works next. over_next p is works (next ∙ ap (λ n. n + 1) (sym one.logs.1));
    untold_log = λ none next. two.untold_log (one.keeps.untold none) (next ∙ ap (λ n. n + 1) (sym one.logs.1));
    damaged = two.damaged;
    undamaged = λ p is tells works. let first = one.well.stays.stores p is tells works in two.undamaged first.view first.is first.tells first.jobs;
    spent = λ spent. ap (λ n. n + 1) (sym one.logs.1) ∙ two.spent spent;
    unmoved = λ spent. two.unmoved spent ∙ one.logs.1;
    log_out_spent = λ spent out. two.log_out_spent spent (one.well.log_out out);
  }
    where
      -- where the store tells nothing, neither does the next log
      over_next : (p : PartView) → IsPart (told_by e old) p → works_by e old p → new.part.generation ≡ mid.part.generation + 1 → NextLogs p.part new.part.generation (e.history new.part.log.device)
      over_next p is works next = at (e.disks old.part.store) refl
        where
          at : (disks : List Disk) → e.disks old.part.store ≡ disks → NextLogs p.part new.part.generation (e.history new.part.log.device)
          at [] none = subst (λ fs. NextLogs p.part new.part.generation fs) (sym (two.untold_log (one.keeps.untold none) next)) (All-nil _)
          at (disk ∷ past) some =
              let told : IsTold (e.disks old.part.store) = subst (λ ds. IsTold ds) (sym some) tt in
              let first = one.well.stays.stores p is (record { store = told; components = where_told (e.disks old.part.store) (AreTold (told_by e old).components) told may.ready.components }) works in
              subst (λ part. NextLogs part new.part.generation (e.history new.part.log.device)) first.here (two.next_log first.view first.is first.jobs next)

  pub over_then : (r : Result (Unit {0}) EngineFault) → MovesOver e (Ok tt) old mid → mid.part.sealed_log ≡ Some old.part.log → mid.part.generation ≡ old.part.generation + 1 → Moves e r mid new → MovesOver e r old new
  over_then r one sealed next two = record {
    keeps = keeps_then e old mid new _ _ _ one.keeps two.keeps (λ failed. failed);
    well = ok_then r _ _ (λ second. well_then e old mid new one.well second) two.well;
    failed = on_err r _ _ (λ fails. fails_then (works_by e old) (works_by e mid) (works_by e new) (told_by e old) (told_by e mid) (told_by e new) one.well.stays fails) two.failed;
    moments = subst (λ (l : LogState D). MomentsStayOver (works_by e old) (told_by e old) (e.history l.device) (e.disks new.part.store)) (sym two.logs.0)
        (moments_over (works_by e old) (works_by e mid) (told_by e old) (told_by e mid) (e.disks new.part.store) (ap (λ o. (told_by e (record mid { part = record mid.part { sealed_log = o } })).sealed_log) sealed) one.well.stays one.moments two.moments);
    next_log = λ p is works goes. subst (λ n. NextLogs p.part n (e.history new.part.log.device)) (sym two.logs.1) (subst (λ (l : LogState D). NextLogs p.part mid.part.generation (e.history l.device)) (sym two.logs.0) (one.next_log p is works next));
    untold_log = λ none goes. ap (λ (l : LogState D). e.history l.device) two.logs.0 ∙ one.untold_log none next;
    damaged = two.damaged;
    undamaged = λ p is tells works. let first = one.well.stays.stores p is tells works in two.undamaged first.view first.is first.tells first.jobs;
    spent = λ spent. absurd (two.unspent spent);
    unmoved = λ spent. absurd (two.unspent spent);
    log_out_spent = λ spent. absurd (two.unspent spent);
  }

-- ---- a table that is not sealed

module _ {S D F W : Type 0} (e : Eyes S D F W) (old new : Working S D F W) where
  pub over_of : (r : Result (Unit {0}) EngineFault) → Moves e r old new → MovesOver e r old new
  over_of r one = record {
    keeps = one.keeps;
    well = one.well;
    failed = one.failed;
    moments = moments_before (works_by e old) (told_by e old) (e.history new.part.log.device) (e.disks new.part.store) one.moments;
    next_log = λ p is works next. absurd (omega (arith, next, one.logs.1));
    untold_log = λ none next. absurd (omega (arith, next, one.logs.1));
    damaged = one.damaged;
    undamaged = one.undamaged;
    spent = λ spent. absurd (one.unspent spent);
    unmoved = λ spent. absurd (one.unspent spent);
    log_out_spent = λ spent. absurd (one.unspent spent);
  }
