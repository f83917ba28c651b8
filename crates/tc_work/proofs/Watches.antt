-- The faults that calls which follow each other count on the watches of a partition.
use Rattle.std.proofs.Common.{◌≡◌, Option, Some, None, refl, sym, subst, arith, inl, inr}
use Rattle.std.specs.Prelude.{◌⊎◌, Result, Ok, Err, IfErr, IsErrOf, IsOk, option_map}
use Rattle.tc_bytes.specs.Counts.{Rose}
use Rattle.tc_store.specs.Counted.{Counts, IsCounted}
use Rattle.tc_store.specs.declared.fault.DeviceFault.{DeviceFault}
use Rattle.tc_store.specs.declared.fault.DeviceFault.TheVariants as device
use Rattle.tc_merge.specs.Faults.{IsWatched}
use Rattle.tc_part.specs.declared.fault.PartFault.{PartFault}
use Rattle.tc_part.specs.declared.fault.PartFault.TheVariants as part
use Rattle.tc_part.specs.Faults.{of_device, of_job}
use Rattle.tc_part_model.specs.PartState.{PartState}
use Rattle.tc_work.specs.Settling.{FaultsRose, FaultsStay, IsWatchedIn}
use Rattle.tc_work.proofs.ReadCounts.{rose_since}

pub faults_same : (o : Option Counts) → FaultsStay o o
faults_same None = tt
faults_same (Some c) = omega arith

faults_then : (a b c : Option Counts) → FaultsStay a b → FaultsStay b c → FaultsStay a c
faults_then None None None one two = tt
faults_then None None (Some c) one two = absurd two
faults_then None (Some b) c one two = absurd one
faults_then (Some a) None c one two = absurd one
faults_then (Some a) (Some b) None one two = absurd two
faults_then (Some a) (Some b) (Some c) one two = omega (arith, one, two)

rose_behind : (a b c : Option Counts) → FaultsStay a b → FaultsRose b c → FaultsRose a c
rose_behind None None None one two = absurd two
rose_behind None None (Some c) one two = absurd two
rose_behind None (Some b) c one two = absurd one
rose_behind (Some a) None c one two = absurd one
rose_behind (Some a) (Some b) None one two = absurd two
rose_behind (Some a) (Some b) (Some c) one two = rose_since a b c one two

-- two calls
pub then_watched : {S D F W : Type 0} (counts : W → Counts) (First Second Failed : Type 0) (old mid new : PartState S D F W) → IsWatchedIn counts First old mid → IsWatchedIn counts Second mid new → (Failed → Second) → IsWatchedIn counts Failed old new
then_watched counts First Second Failed old mid new one two cause = record {
  main = omega (arith, one.main, two.main);
  flusher = faults_then (option_map counts old.flusher) (option_map counts mid.flusher) (option_map counts new.flusher) one.flusher two.flusher;
  merger = faults_then (option_map counts old.merger) (option_map counts mid.merger) (option_map counts new.merger) one.merger two.merger;
  cause = λ failed. at (two.cause (cause failed));
}
  where
    at : Rose (counts mid.main).faults (counts new.main).faults ⊎
        (FaultsRose (option_map counts mid.flusher) (option_map counts new.flusher) ⊎ FaultsRose (option_map counts mid.merger) (option_map counts new.merger))
        → Rose (counts old.main).faults (counts new.main).faults ⊎ (FaultsRose (option_map counts old.flusher) (option_map counts new.flusher)
        ⊎ FaultsRose (option_map counts old.merger) (option_map counts new.merger))
    at (inl rose) = inl (rose_since (counts old.main) (counts mid.main) (counts new.main) one.main rose)
    at (inr (inl rose)) = inr (inl (rose_behind (option_map counts old.flusher) (option_map counts mid.flusher) (option_map counts new.flusher) one.flusher rose))
    at (inr (inr rose)) = inr (inr (rose_behind (option_map counts old.merger) (option_map counts mid.merger) (option_map counts new.merger) one.merger rose))

-- two calls, of which the first fails
pub watched_before : {S D F W : Type 0} (counts : W → Counts) (Failed Second : Type 0) (old mid new : PartState S D F W) → IsWatchedIn counts Failed old mid → IsWatchedIn counts Second mid new → IsWatchedIn counts Failed old new
watched_before counts Failed Second old mid new one two = record {
  main = omega (arith, one.main, two.main);
  flusher = faults_then (option_map counts old.flusher) (option_map counts mid.flusher) (option_map counts new.flusher) one.flusher two.flusher;
  merger = faults_then (option_map counts old.merger) (option_map counts mid.merger) (option_map counts new.merger) one.merger two.merger;
  cause = λ failed. at (one.cause failed);
}
  where
    stays : (a b c : Option Counts) → FaultsRose a b → FaultsStay b c → FaultsRose a c
    stays None b c rose stay = absurd rose
    stays (Some a) None c rose stay = absurd rose
    stays (Some a) (Some b) None rose stay = absurd stay
    stays (Some a) (Some b) (Some c) rose stay = omega (arith, rose, stay)

    at : Rose (counts old.main).faults (counts mid.main).faults ⊎
        (FaultsRose (option_map counts old.flusher) (option_map counts mid.flusher) ⊎ FaultsRose (option_map counts old.merger) (option_map counts mid.merger))
        → Rose (counts old.main).faults (counts new.main).faults ⊎ (FaultsRose (option_map counts old.flusher) (option_map counts new.flusher)
        ⊎ FaultsRose (option_map counts old.merger) (option_map counts new.merger))
    at (inl rose) = inl (omega (arith, rose, two.main))
    at (inr (inl rose)) = inr (inl (stays (option_map counts old.flusher) (option_map counts mid.flusher) (option_map counts new.flusher) rose two.flusher))
    at (inr (inr rose)) = inr (inr (stays (option_map counts old.merger) (option_map counts mid.merger) (option_map counts new.merger) rose two.merger))

-- a call that is handed the main watch alone
pub main_watched : {S D F W : Type 0} (counts : W → Counts) (Failed Cause : Type 0) (old new : PartState S D F W) → IsCounted Cause (counts old.main) (counts new.main) → new.flusher ≡ old.flusher → new.merger ≡ old.merger → (Failed → Cause) → IsWatchedIn counts Failed old new
main_watched {W = W} counts Failed Cause old new is flusher merger cause = record {
  main = is.faults;
  flusher = subst (λ (o : Option W). FaultsStay (option_map counts old.flusher) (option_map counts o)) (sym flusher) (faults_same (option_map counts old.flusher));
  merger = subst (λ (o : Option W). FaultsStay (option_map counts old.merger) (option_map counts o)) (sym merger) (faults_same (option_map counts old.merger));
  cause = λ failed. inl (is.cause (cause failed));
}

-- ---- a job is begun, run and handed back, with the watch of its kind

module _ {S D F W : Type 0} (counts : W → Counts) (Failed First Cause Job : Type 0) (old mid new : PartState S D F W) (w done : W)
    (begun : IsCounted First (counts old.main) (counts mid.main)) (ended : IsWatched Cause (counts mid.main) (counts new.main))
    (ran : IsWatched Job (counts w) (counts done))
    (cause : Failed → Cause ⊎ Job) where
  rose : Failed → Rose (counts old.main).faults (counts new.main).faults ⊎ Rose (counts w).faults (counts done).faults
  rose failed = elim (cause failed) [
    | inl of_end ↦ inl (rose_since (counts old.main) (counts mid.main) (counts new.main) begun.faults (ended.cause of_end))
    | inr of_job ↦ inr (ran.cause of_job)
  ]

  job_stays : (was is : Option W) → Some w ≡ was → is ≡ Some done → FaultsStay (option_map counts was) (option_map counts is)
  job_stays was is before after = subst (λ (o : Option W). FaultsStay (option_map counts o) (option_map counts is)) before (subst (λ (o : Option W). FaultsStay (Some (counts w)) (option_map counts o)) (sym after) ran.faults)

  job_rose : (was is : Option W) → Some w ≡ was → is ≡ Some done → Rose (counts w).faults (counts done).faults → FaultsRose (option_map counts was) (option_map counts is)
  job_rose was is before after up = subst (λ (o : Option W). FaultsRose (option_map counts o) (option_map counts is)) before (subst (λ (o : Option W). FaultsRose (Some (counts w)) (option_map counts o)) (sym after) up)

  other_stays : (was is : Option W) → is ≡ was → FaultsStay (option_map counts was) (option_map counts is)
  other_stays was is same = subst (λ (o : Option W). FaultsStay (option_map counts was) (option_map counts o)) (sym same) (faults_same (option_map counts was))

  pub flush_watched : Some w ≡ old.flusher → new.flusher ≡ Some done → new.merger ≡ old.merger → IsWatchedIn counts Failed old new
  flush_watched before after other = record {
    main = omega (arith, begun.faults, ended.faults);
    flusher = job_stays old.flusher new.flusher before after;
    merger = other_stays old.merger new.merger other;
    cause = λ failed. elim (rose failed) [ inl up ↦ inl up | inr up ↦ inr (inl (job_rose old.flusher new.flusher before after up)) ];
  }

  pub merge_watched : Some w ≡ old.merger → new.merger ≡ Some done → new.flusher ≡ old.flusher → IsWatchedIn counts Failed old new
  merge_watched before after other = record {
    main = omega (arith, begun.faults, ended.faults);
    flusher = other_stays old.flusher new.flusher other;
    merger = job_stays old.merger new.merger before after;
    cause = λ failed. elim (rose failed) [ inl up ↦ inl up | inr up ↦ inr (inr (job_rose old.merger new.merger before after up)) ];
  }

-- ---- what is left of a job is handed back, with its watch

module _ {S D F W : Type 0} (counts : W → Counts) (Failed Cause Job : Type 0) (old new : PartState S D F W) (w done : W) (ended : IsWatched Cause (counts old.main) (counts new.main)) (ran : IsWatched Job (counts w) (counts done)) (cause : Failed → Cause ⊎ Job) where
  still : IsCounted ⊥ (counts old.main) (counts old.main)
  still = record { faults = omega arith; cause = λ never. absurd never; reads = refl }

  pub flush_handed : old.flusher ≡ Some w → new.flusher ≡ Some done → new.merger ≡ old.merger → IsWatchedIn counts Failed old new
  flush_handed before after other = flush_watched counts Failed ⊥ Cause Job old old new w done still ended ran cause (sym before) after other

  pub merge_handed : old.merger ≡ Some w → new.merger ≡ Some done → new.flusher ≡ old.flusher → IsWatchedIn counts Failed old new
  merge_handed before after other = merge_watched counts Failed ⊥ Cause Job old old new w done still ended ran cause (sym before) after other

-- what a job counts
pub as_watched : (Failed : Type 0) (old new : Counts) → IsCounted Failed old new → IsWatched Failed old new
as_watched Failed old new is = record { faults = is.faults; cause = is.cause }

-- a disk fault of the call that ends a job is its own, or that of the job
pub flush_cause : (outcome : Result (Unit {0}) DeviceFault) (r : Result (Unit {0}) PartFault) → IfErr outcome (λ cause. r ≡ Err (of_device cause)) → IsErrOf r part.Disk → (IsOk outcome × IsErrOf r part.Disk) ⊎ IsErrOf outcome device.Fault
flush_cause (Ok x) r is disk = inl (refl, disk)
flush_cause (Err device.Fault) r is disk = inr refl
flush_cause (Err device.Memory) r is disk = absurd (cc)
