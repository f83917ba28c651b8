-- A part that failed, whose jobs are given back: what it keeps.
use Rattle.std.proofs.Common.{◌≡◌, ◌∙◌, Bool, true, false, List, [], ◌∷◌, Option, None, is_some, refl, sym, ap, subst, inl, inr}
use Rattle.std.specs.Prelude.{Result, Err, IfErr}
use Rattle.tc_log.specs.Appending.{LogState}
use Rattle.tc_part_model.specs.Leaving.{FailedMomentsLeaveStore, LeavesStoreAt}
use Rattle.tc_part_model.specs.PartState.{PartState, Told}
use Rattle.tc_part_model.specs.PartView.{PartView, store_of}
use Rattle.tc_part_model.proofs.FollowingMoments.{run_on}
use Rattle.tc_part_model.proofs.ToldFiles.{MomentsSince, no_moments_since}
use Rattle.tc_running.specs.Jobs.{JobsState}
use Rattle.tc_store.specs.Disk.{Disk}
use Rattle.tc_store.specs.DiskFile.{DiskFile}
use Rattle.tc_store.proofs.MomentLemmas.{EachSince-trans}
use Rattle.tc_plain_model.specs.Writes.{Write}
use Rattle.tc_work.specs.declared.fault.EngineFault.{EngineFault}
use Rattle.tc_work.specs.Damage.{IsPartDamage}
use Rattle.tc_work.specs.Ending.{GivesBack}
use Rattle.tc_work.specs.Faults.{IfDamaged}
use Rattle.tc_work.specs.JobsOut.{watched_part}
use Rattle.tc_work.specs.Moving.{Eyes, Working, beside, told_by, works_by, FailsMoving, IsOutBy, KeepsJobs, Moves}
use Rattle.tc_work.proofs.KeptJobs.{flush_out_still, merge_out_still}
use Rattle.tc_work.proofs.MovedDocuments.{moved_then}
use Rattle.tc_work.proofs.MovingCalls.{sealed_still}
use Rattle.tc_work.proofs.OnResults.{on_err_is, on_err_only}
use Rattle.tc_work.proofs.StoredMoments.{moments_of, store_moments, then_moments}
use Rattle.tc_work.proofs.Watches.{watched_before}
use Rattle.tc_work.proofs.Windows.{err_always}

-- ---- the moments

pub failed_then : (p : PartView) (frame : Option (List Write)) (t u : Told) (disks : List Disk) → u.log ≡ t.log → u.sealed_log ≡ t.sealed_log → FailedMomentsLeaveStore p frame t u.disks → FailedMomentsLeaveStore p frame u disks → FailedMomentsLeaveStore p frame t disks
failed_then p frame t u disks log sealed one two = at t.log one (subst (λ o. MomentsSince (λ disk f g. LeavesStoreAt p frame g f disk) u.disks t.log o disks) sealed (subst (λ fs. MomentsSince (λ disk f g. LeavesStoreAt p frame g f disk) u.disks fs u.sealed_log disks) log two))
  where
    at : (fs : List DiskFile) → MomentsSince (λ disk f g. LeavesStoreAt p frame g f disk) t.disks fs t.sealed_log u.disks
        → MomentsSince (λ disk f g. LeavesStoreAt p frame g f disk) u.disks fs t.sealed_log disks
        → MomentsSince (λ disk f g. LeavesStoreAt p frame g f disk) t.disks fs t.sealed_log disks
    at [] first second = tt
    at (f ∷ past) first second = λ g is. EachSince-trans (LeavesStoreAt p frame g f) t.disks u.disks disks (first g is) (second g is)

pub failed_none : (p : PartView) (frame : Option (List Write)) (t : Told) → FailedMomentsLeaveStore p frame t t.disks
failed_none p frame t = no_moments_since (λ disk f g. LeavesStoreAt p frame g f disk) t.disks t.log t.sealed_log

-- ---- the part is given up

pub out_given_up : {S D F W : Type 0} (e : Eyes S D F W) (w : Working S D F W) → IsOutBy e w → IsOutBy e (beside (record w.part { failed = true }) w.jobs)
out_given_up e w out = record {
  flush = flush_out_still e.disks e.history e.content e.name_of w.part (record w.part { failed = true }) (λ none. none) w.jobs.flush refl out.flush;
  merge = merge_out_still e.disks e.history e.content e.name_of w.part (record w.part { failed = true }) (λ none. none) w.jobs.merge refl out.merge;
}

pub keeps_given_up : {S D F W : Type 0} (e : Eyes S D F W) (Failed : Type 0) (old new : Working S D F W) → KeepsJobs e Failed old new → KeepsJobs e Failed old (beside (record new.part { failed = true }) new.jobs)
keeps_given_up {S = S} {D = D} {F = F} {W = W} e Failed old new keeps = record {
  jobs = out_given_up e new keeps.jobs;
  moved = ap (λ (s : PartState S D F W). record s { failed = true }) keeps.moved;
  untold = keeps.untold;
  tells = keeps.tells;
  devices = keeps.devices;
  watched = record { main = keeps.watched.main; flusher = keeps.watched.flusher; merger = keeps.watched.merger; cause = keeps.watched.cause };
}

-- so it is of the part that an engine has which failed
pub out_inside : {S D F W : Type 0} (e : Eyes S D F W) (part : PartState S D F W) (failed : Bool) (jobs : JobsState F D W) → IsOutBy e (beside (record part { failed = failed }) jobs) → IsOutBy e (beside part jobs)
out_inside e part failed jobs out = record {
  flush = flush_out_still e.disks e.history e.content e.name_of (record part { failed = failed }) part (λ none. none) jobs.flush refl out.flush;
  merge = merge_out_still e.disks e.history e.content e.name_of (record part { failed = failed }) part (λ none. none) jobs.merge refl out.merge;
}

module _ {S D F W : Type 0} (e : Eyes S D F W) (old mid new : Working S D F W) where
  abbrev up : Working S D F W
  up = beside (record mid.part { failed = true }) mid.jobs

  pub keeps_before : (Failed Second : Type 0) → KeepsJobs e Failed old mid → KeepsJobs e Second up new → KeepsJobs e Failed old new
  keeps_before Failed Second first two =
      let one = keeps_given_up e Failed old mid first in
      record {
        jobs = two.jobs;
        moved = moved_then old.part up.part new.part one.moved two.moved;
        untold = λ none. two.untold (one.untold none);
        tells = λ tells. two.tells (one.tells tells);
        devices = λ tells only. two.devices (one.tells tells) (one.devices tells only);
        watched = watched_before e.counts Failed Second (watched_part old.part old.jobs) (watched_part up.part up.jobs) (watched_part new.part new.jobs) one.watched two.watched;
      }

  -- a call failed, and then the jobs are given back
  pub given_back : (r : Result (Unit {0}) EngineFault) (fault : EngineFault) → r ≡ Err fault → Moves e r old mid → KeepsJobs e ⊥ up new → ((p : PartView) (frame : Option (List Write)) → GivesBack (works_by e up) (works_by e new) p frame (told_by e up) (told_by e new))
      → new.part ≡ record mid.part { store = new.part.store; flusher = new.part.flusher; merger = new.part.merger; flushing = false; merging = None; failed = true } → Moves e r old new
  given_back r fault is one back stays given_up = record {
    keeps = keeps_before _ ⊥ one.keeps back;
    well = on_err_only r fault _ is;
    failed = err_always r _ (λ p is_part tells works.
        let has = failing p is_part tells works in
        let given = stays has.view None has.files has.jobs in
        record {
          view = has.view;
          here = has.here;
          holds = has.holds;
          files = record { failed = refl; tells = given.0.tells; files = given.0.files };
          logs = record { generation = same.1 ∙ has.logs.generation; sealed_log = ap (λ o. is_some (told_by e (record mid { part = record mid.part { sealed_log = o } })).sealed_log) same.2 ∙ has.logs.sealed_log; one = has.logs.one };
          jobs = given.1;
        });
    moments = λ p is_part tells works.
        let has = failing p is_part tells works in
        let given = stays has.view None has.files has.jobs in
        then_moments p.part (store_of p) (told_by e old) (told_by e up) (e.disks new.part.store) (ap (λ (l : LogState D). e.history l.device) one.logs.0) (sealed_still e old mid new one.sealed_log) (one.moments p is_part tells works)
        (moments_of (told_by e up) p has.view (e.disks new.part.store) has.here has.holds (store_moments (told_by e up) has.view has.view (e.disks new.part.store) refl refl (run_on (told_by e up) has.view (e.disks new.part.store) given.2)));
    logs = (same.0 ∙ one.logs.0, same.1 ∙ one.logs.1);
    sealed_log = elim one.sealed_log [ inl was ↦ inl (same.2 ∙ was) | inr none ↦ inr (same.2 ∙ none) ];
    damaged = subst (λ (s : PartState S D F W). IfErr r (λ f. IfDamaged f (IsPartDamage e.content e.history s))) (sym given_up) one.damaged;
    undamaged = one.undamaged;
    unspent = one.unspent;
  }
    where
      same : (new.part.log ≡ mid.part.log) × (new.part.generation ≡ mid.part.generation) × (new.part.sealed_log ≡ mid.part.sealed_log)
      same = (ap (λ (s : PartState S D F W). s.log) given_up, ap (λ (s : PartState S D F W). s.generation) given_up, ap (λ (s : PartState S D F W). s.sealed_log) given_up)

      failing : FailsMoving e old mid
      failing = on_err_is r fault _ is one.failed
