-- Calls that keep what is stored, one after another.
use Rattle.std.proofs.Common.{◌≡◌, List, Some, None, true, refl}
use Rattle.tc_store.specs.Disk.{Disk}
use Rattle.tc_store.specs.DiskFile.{DiskFile}
use Rattle.tc_part_model.specs.Meaning.{HasFailedAs, IsPart}
use Rattle.tc_part_model.specs.PartFiles.{IsSealedFile}
use Rattle.tc_part_model.specs.PartState.{IsTold, Told}
use Rattle.tc_part_model.specs.PartView.{PartView, store_of}
use Rattle.tc_work.specs.Failing.{FailsKeeping}
use Rattle.tc_work.specs.Settling.{MaySettle, MomentsStay, MomentsStayOver, StaysStored}
use Rattle.tc_work.proofs.Settled.{failed_keeps, keeps_of, still, still_then}
use Rattle.tc_work.proofs.StoredMoments.{before_over, moments_of, over_before, over_of, over_then, then_moments, where_told}

-- The jobs that are out before a call, behind it, and behind the next one, work for views of the part.
module _ (Before Then Now : PartView → Type 0) where
  -- two calls
  pub stays_then : (t u v : Told) → StaysStored Before Then t u → StaysStored Then Now u v → StaysStored Before Now t v
  stays_then t u v one two = record {
    stores = λ p is tells works. let first = one.stores p is tells works in still_then Then Now t u v p first (two.stores first.view first.is first.tells first.jobs);
    ready = two.ready;
    untold = λ none. two.untold (one.untold none);
  }

  pub fails_then : (t u v : Told) → StaysStored Before Then t u → FailsKeeping Then Now u v → FailsKeeping Before Now t v
  fails_then t u v stays fails = λ p is tells works.
      let one = stays.stores p is tells works in
      keeps_of Now (record v { failed = true }) p one.view one.here one.stores (fails one.view one.is one.tells one.jobs)

module _ (Before Then : PartView → Type 0) where
  pub moments_then : (t u : Told) (disks : List Disk) → u.log ≡ t.log → ((g : DiskFile) → IsSealedFile t.sealed_log g → IsSealedFile u.sealed_log g) → StaysStored Before Then t u → MomentsStay Before t u.disks → MomentsStay Then u disks → MomentsStay Before t disks
  moments_then t u disks log sealed stays first second = λ p is tells works.
      let one = stays.stores p is tells works in
      then_moments p.part (store_of p) t u disks log sealed (first p is tells works)
      (moments_of u p one.view disks one.here one.stores (second one.view one.is one.tells one.jobs))

  -- the table is sealed by the second
  pub moments_then_over : (t u : Told) (log : List DiskFile) (disks : List Disk) → u.log ≡ t.log → ((g : DiskFile) → IsSealedFile t.sealed_log g → IsSealedFile u.sealed_log g) → StaysStored Before Then t u → MomentsStay Before t u.disks → MomentsStayOver Then u log disks
      → MomentsStayOver Before t log disks
  moments_then_over t u log disks same sealed stays first second = λ p is tells works.
      let one = stays.stores p is tells works in
      before_over p.part (store_of p) t u log disks same sealed (first p is tells works)
      (over_of u p one.view log disks one.here one.stores (second one.view one.is one.tells one.jobs))

  -- it was sealed, and then no log is touched, but that the sealed one may be flushed
  pub moments_over : (t u : Told) (disks : List Disk) → u.sealed_log ≡ Some t.log → StaysStored Before Then t u → MomentsStayOver Before t u.log u.disks → MomentsStay Then u disks → MomentsStayOver Before t u.log disks
  moments_over t u disks sealed stays first second = λ p is tells works.
      let one = stays.stores p is tells works in
      over_then p.part (store_of p) t u disks sealed (where_told u.disks (IsTold u.log) one.tells.store one.is.tells.active) (first p is tells works)
      (moments_of u p one.view disks one.here one.stores (second one.view one.is one.tells one.jobs))

-- the table is not sealed
pub moments_before : (Works : PartView → Type 0) (t : Told) (log : List DiskFile) (disks : List Disk) → MomentsStay Works t disks → MomentsStayOver Works t log disks
moments_before Works t log disks moments = λ p is tells works. over_before p.part (store_of p) t log disks (moments p is tells works)

-- a call fails before it changes anything
pub fails_as_it_was : (Works : PartView → Type 0) (t : Told) → ((p : PartView) → IsPart t p → HasFailedAs (record t { failed = true }) p None) → FailsKeeping Works Works t t
fails_as_it_was Works t fails = λ p is tells works. failed_keeps Works t (record t { failed = true }) p p is refl refl (fails p is) refl refl works

-- nothing was done
pub stays_as_it_was : (Works : PartView → Type 0) (t : Told) → MaySettle t → StaysStored Works Works t t
stays_as_it_was Works t ready = record { stores = λ p is tells works. still Works t t p p is refl refl refl refl tells works; ready = ready; untold = λ none. none }
