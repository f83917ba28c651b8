-- Files are gone that merges replaced and nothing shares any more: what stays of the part, and of the jobs that are out.
use Rattle.std.proofs.Common.{◌≡◌, ℕ, false, refl, sym, ap, subst, inl}
use Rattle.std.specs.Prelude.{Ok}
use Rattle.tc_list.specs.declared.policy.Policy.{Policy}
use Rattle.tc_part.specs.FilesOut.{LogIsOut, OnlyDevicesOut}
use Rattle.tc_part.specs.OwnFiles.{HasOwnFiles}
use Rattle.tc_part_model.specs.Leaving.{StoreMomentsLeaveStore}
use Rattle.tc_part_model.specs.Meaning.{IsPart}
use Rattle.tc_part_model.specs.PartState.{PartState, Told, AreTold}
use Rattle.tc_part_model.specs.PartView.{PartView}
use Rattle.tc_running.specs.Jobs.{JobsState}
use Rattle.tc_store.specs.Counted.{IsCounted}
use Rattle.tc_work.specs.Moving.{Eyes, beside, told_by, works_by, IsPickedBy, ListsPicked, MayMove, Moves}
use Rattle.tc_work.specs.Settling.{IsDue, IsListedBy}
use Rattle.tc_work.proofs.JobEnds.{job_stores}
use Rattle.tc_work.proofs.KeptJobs.{keeps_unless_failed}
use Rattle.tc_work.proofs.PickedMerges.{listed_same}
use Rattle.tc_work.proofs.Settled.{components_still, told_now, GoesOnUntold}
use Rattle.tc_work.proofs.StoredMoments.{store_moments}

-- nothing changed but the store, also where the part did not fail
pub swept_same : {S D F W : Type 0} (old new : PartState S D F W) → new ≡ record old { store = new.store; main = new.main } → new ≡ record old { store = new.store; main = new.main; failed = new.failed }
swept_same {S = S} {D = D} {F = F} {W = W} old new same = subst (λ (s : PartState S D F W). s ≡ record old { store = s.store; main = s.main; failed = s.failed }) (sym same) refl

module _ {S D F W : Type 0} (e : Eyes S D F W) (old new : PartState S D F W) (same : new ≡ record old { store = new.store; main = new.main; failed = new.failed }) where
  -- nothing was listed
  pub swept_lists : (policy : Policy) (jobs : JobsState F D W) → IsPickedBy e policy (beside old jobs) → ListsPicked e policy (beside old jobs) (beside new jobs)
  swept_lists policy jobs picked = record {
    listed = subst (λ (s : PartState S D F W). IsListedBy policy e.size old s) (sym same) (listed_same policy e.size old (record old { store = new.store; main = new.main; failed = new.failed }) refl refl);
    picked = subst (λ (s : PartState S D F W). IsPickedBy e policy (beside s jobs)) (sym same) picked;
  }

  -- what is due is due still, and was so before
  pub due_still : (size : D → ℕ) → IsDue size old → IsDue size new
  due_still size due = subst (λ (s : PartState S D F W). IsDue size s) (sym same) (record { written = due.written; long = due.long })

  pub due_before : (size : D → ℕ) → IsDue size new → IsDue size old
  due_before size due =
      let here : IsDue size (record old { store = new.store; main = new.main; failed = new.failed }) = subst (λ (s : PartState S D F W). IsDue size s) same due in record { written = here.written; long = here.long }

module _ {S D F W : Type 0} (e : Eyes S D F W) (old new : PartState S D F W) (jobs : JobsState F D W) where
  abbrev t : Told
  t = told_by e (beside old jobs)

  abbrev u : Told
  u = told_by e (beside new jobs)

  -- what the call of the part promises
  pub record HasSwept : Type 0 where
    pub same : new ≡ record old { failed = new.failed; main = new.main; store = new.store }
    pub sound : new.failed ≡ false
    pub part : (p : PartView) → IsPart t p → IsPart u p
    pub own : HasOwnFiles t → HasOwnFiles u
    pub untold : GoesOnUntold (e.disks old.store) (e.disks new.store)
    pub devices : OnlyDevicesOut t → OnlyDevicesOut u
    pub log_out : LogIsOut t → LogIsOut u

  pub swept : (Failed : Type 0) → HasSwept → ((p : PartView) → IsPart t p → StoreMomentsLeaveStore p p t (e.disks new.store)) → MayMove e (beside old jobs) → IsCounted Failed (e.counts old.main) (e.counts new.main) → Moves e (Ok tt) (beside old jobs) (beside new jobs)
  swept Failed h leaves may counted = record {
    keeps = keeps_unless_failed e old new jobs _ Failed may.jobs h.same h.untold h.devices counted (λ disk. absurd (cc));
    well = record {
      sound = h.sound;
      stays = record {
        stores = λ p is tells works.
            job_stores (works_by e (beside new jobs)) t u p p is tells.store (told_now t.disks (λ d. IsPart u p) (λ told d. h.part p is)) refl refl refl (leaves p is)
            (ap (λ (s : PartState S D F W). s.taken) h.same) (subst AreTold (sym components) tells.components) works;
        ready = record { own = h.own may.ready.own; components = components_still t u h.untold may.ready.components (λ told are_told. subst AreTold (sym components) are_told) };
        untold = h.untold;
      };
      log_out = h.log_out;
    };
    failed = tt;
    moments = λ p is tells works. store_moments t p p (e.disks new.store) refl refl (leaves p is);
    logs = (ap (λ (s : PartState S D F W). s.log) h.same, ap (λ (s : PartState S D F W). s.generation) h.same);
    sealed_log = inl (ap (λ (s : PartState S D F W). s.sealed_log) h.same);
    damaged = tt;
    undamaged = λ p is tells works. tt;
    unspent = λ spent. absurd (cc);
  }
    where
      components : u.components ≡ t.components
      components = ap (λ (s : PartState S D F W). (told_by e (beside s jobs)).components) h.same
