-- What counts over a call of the engines, partition by partition.
use Rattle.std.proofs.Common.{◌≡◌, ◌⊎◌, ◌≤◌, ◌<◌, ◌+◌, ℕ, zero, suc, List, [], ◌∷◌, All, length, arith, refl, ap, sym, subst, inl, inr}
use Rattle.std.specs.Prelude.{Option, Some, None, option_map, slice_get, unwrap_or, Result, Err}
use Rattle.std.proofs.lemmas.List.Elements.{All-head, All-tail}
use Rattle.tc_bytes.specs.Counts.{Rose}
use Rattle.tc_component.specs.Loading.{ComponentState}
use Rattle.tc_keeper.specs.EngineFaults.{IfOf, IsDiskOf, StopsFirst}
use Rattle.tc_keeper.specs.Moving.{HasFailedMoving, HasMoved, StopsAt}
use Rattle.tc_keeper.specs.Places.{AtEach, IsAt, SomeFrom}
use Rattle.tc_keeper.specs.Running.{HasOnlyRun}
use Rattle.tc_keeper.specs.declared.engines_fault.EnginesFault.{EnginesFault}
use Rattle.tc_keeper.specs.declared.engines_fault.EnginesFault.TheVariants as engines
use Rattle.tc_keeper.proofs.PlaceLaws.{at_each-so}
use Rattle.tc_keeper.specs.WithJobs.{told_of, WithJobs}
use Rattle.tc_model.specs.Keyed.{Keyed}
use Rattle.tc_part.specs.Harms.{IsBytesHarm, IsHarmIn}
use Rattle.tc_part_model.specs.PartState.{PartState}
use Rattle.tc_request_model.specs.Request.{Request}
use Rattle.tc_running.specs.Jobs.{JobsState}
use Rattle.tc_store.specs.Counted.{Counts}
use Rattle.tc_store.specs.declared.damage.Damage.{Damage}
use Rattle.tc_store.specs.KitFaults.{KitFaults}
use Rattle.tc_work.specs.Damage.{IsPartDamage}
use Rattle.tc_work.specs.Faults.{IfDamaged as IfEngineDamaged}
use Rattle.tc_work.specs.JobsOut.{flusher_of, merger_of, watched_part}
use Rattle.tc_work.specs.Moving.{told_part, Eyes}
use Rattle.tc_work.specs.Reads.{IsCountedWithin}
use Rattle.tc_work.specs.Settling.{FaultsRose, FaultsStay, IsWatchedIn}
use Rattle.tc_work.specs.declared.fault.EngineFault.{EngineFault}
use Rattle.tc_work.specs.declared.fault.EngineFault.TheVariants as engine
use Rattle.tc_keeper.specs.Calls.{faults_at, IsSpentAt, MayBeAsked}
use Rattle.tc_keeper.specs.Faults.{faults_of_part, HasDiskCause, HaveRisen, HaveStayed, IsSaid, NoneFell, OneRose}
use Rattle.tc_keeper.specs.Partitions.{fault_of_engines, window_fault_of}
use Rattle.tc_keeper.specs.declared.fault.RunFault.{RunFault}
use Rattle.tc_keeper.specs.declared.fault.RunFault.TheVariants.{Disk, Damaged, Memory, Spent}
use Rattle.tc_keeper.proofs.EachLaws.{at_each-both}

-- ---- one engine

-- the faults of a watch that a partition may have lent
abbrev pub faults_lent : {W : Type 0} → (W → Counts) → Option W → ℕ
faults_lent counts o = unwrap_or (option_map (λ w. (counts w).faults) o) 0

pub lent_stays : {W : Type 0} (counts : W → Counts) (old new : Option W) → FaultsStay (option_map counts old) (option_map counts new) → faults_lent counts old ≤ faults_lent counts new
lent_stays counts None None stay = omega arith
lent_stays counts None (Some w) stay = absurd stay
lent_stays counts (Some w) None stay = absurd stay
lent_stays counts (Some w) (Some v) stay = stay

pub lent_rose : {W : Type 0} (counts : W → Counts) (old new : Option W) → FaultsRose (option_map counts old) (option_map counts new) → Rose (faults_lent counts old) (faults_lent counts new)
lent_rose counts None None rose = absurd rose
lent_rose counts None (Some w) rose = absurd rose
lent_rose counts (Some w) None rose = absurd rose
lent_rose counts (Some w) (Some v) rose = rose

same_lent : {W : Type 0} (counts : W → Counts) (old new : Option W) → new ≡ old → faults_lent counts old ≤ faults_lent counts new
same_lent counts old new same = subst (λ o. faults_lent counts old ≤ faults_lent counts o) (sym same) (omega arith)

pub moved_stays : {S D F W : Type 0} (counts : W → Counts) (failed : Type 0) (old new : PartState S D F W) → IsWatchedIn counts failed old new → new.reader ≡ old.reader → NoneFell (faults_of_part counts old) (faults_of_part counts new)
moved_stays counts failed old new watched reader = record {
  main = watched.main;
  flusher = lent_stays counts old.flusher new.flusher watched.flusher;
  merger = lent_stays counts old.merger new.merger watched.merger;
  reader = same_lent counts old.reader new.reader reader;
}

pub moved_rose : {S D F W : Type 0} (counts : W → Counts) (failed : Type 0) (old new : PartState S D F W) → IsWatchedIn counts failed old new → failed → OneRose (faults_of_part counts old) (faults_of_part counts new)
moved_rose counts failed old new watched has = elim (watched.cause has) [
  | inl main ↦ inl main
  | inr others ↦ elim others [ inl flusher ↦ inr (inl (lent_rose counts old.flusher new.flusher flusher)) | inr merger ↦ inr (inr (inl (lent_rose counts old.merger new.merger merger))) ]
]

pub ran_stays : {S D F W : Type 0} (counts : W → Counts) (most : ℕ) (failed : Type 0) (old new : WithJobs S D F W) → IsCountedWithin most failed (counts old.engine.part.main) (counts new.engine.part.main) → HasOnlyRun old.engine.part new.engine.part → new.jobs ≡ old.jobs
    → NoneFell (faults_at counts old) (faults_at counts new)
ran_stays {S = S} {D = D} {F = F} {W = W} counts most failed old new counted same jobs = record {
  main = counted.faults;
  flusher = same_lent counts (flusher_of old.engine.part.flusher old.jobs.flush) (flusher_of new.engine.part.flusher new.jobs.flush) (let part = ap (λ (p : PartState S D F W). p.flusher) same in let job = ap (λ (js : JobsState F D W). js.flush) jobs in rw (part, job) refl);
  merger = same_lent counts (merger_of old.engine.part.merger old.jobs.merge) (merger_of new.engine.part.merger new.jobs.merge) (let part = ap (λ (p : PartState S D F W). p.merger) same in let job = ap (λ (js : JobsState F D W). js.merge) jobs in rw (part, job) refl);
  reader = same_lent counts old.engine.part.reader new.engine.part.reader (ap (λ (p : PartState S D F W). p.reader) same);
}

-- ---- each engine

module _ {E : Type 0} (faults : E → KitFaults) where
  have_stayed_at : (n : ℕ) (es es' : List E) → AtEach (λ i e e'. NoneFell (faults e) (faults e')) n es es' → (p : ℕ) → HaveStayed (option_map faults (slice_get es p)) (option_map faults (slice_get es' p))
  have_stayed_at n [] [] stayed p = tt
  have_stayed_at n [] (e' ∷ es') stayed p = absurd stayed
  have_stayed_at n (e ∷ es) [] stayed p = absurd stayed
  have_stayed_at n (e ∷ es) (e' ∷ es') stayed zero = stayed.0
  have_stayed_at n (e ∷ es) (e' ∷ es') stayed (suc p) = have_stayed_at (suc n) es es' stayed.1 p

  have_risen_at : (n p : ℕ) (es es' : List E) → p < length es → AtEach (λ i e e'. i ≡ n + p → OneRose (faults e) (faults e')) n es es' → HaveRisen (option_map faults (slice_get es p)) (option_map faults (slice_get es' p))
  have_risen_at n p [] es' below rose = absurd (omega (arith, below))
  have_risen_at n p (e ∷ es) [] below rose = absurd rose
  have_risen_at n zero (e ∷ es) (e' ∷ es') below rose = rose.0 (omega arith)
  have_risen_at n (suc p) (e ∷ es) (e' ∷ es') below rose = let same : n + suc p ≡ suc n + p = omega arith in
      have_risen_at (suc n) p es es' (omega (arith, below)) (subst (λ m. AtEach (λ i e e'. i ≡ m → OneRose (faults e) (faults e')) (suc n) es es') same rose.1)

  abbrev Stayed : List E → List E → Type 0
  Stayed es es' = AtEach (λ p e e'. NoneFell (faults e) (faults e')) 0 es es'

  abbrev RoseAt : ℕ → List E → List E → Type 0
  RoseAt p es es' = AtEach (λ q e e'. q ≡ p → OneRose (faults e) (faults e')) 0 es es'

  abbrev pub Caused : (RunFault → Type 0) → Option RunFault → List E → List E → Type 0
  Caused said fault es es' = HasDiskCause (λ q. option_map faults (slice_get es q)) (λ q. option_map faults (slice_get es' q)) said fault

  pub caused_none : (said : RunFault → Type 0) (es es' : List E) → Stayed es es' → Caused said None es es'
  caused_none said es es' stayed = record { stayed = have_stayed_at 0 es es' stayed; disk = tt; damaged = tt; spent = tt }

  caused_memory : (said : RunFault → Type 0) (es es' : List E) → Stayed es es' → Caused said (Some Memory) es es'
  caused_memory said es es' stayed = record { stayed = have_stayed_at 0 es es' stayed; disk = tt; damaged = tt; spent = λ never. absurd (cc) }

  caused_disk : (said : RunFault → Type 0) (p : ℕ) (es es' : List E) → Stayed es es' → p < length es → RoseAt p es es' → Caused said (Some (Disk p)) es es'
  caused_disk said p es es' stayed below rose = record {
    stayed = have_stayed_at 0 es es' stayed;
    disk = let same : 0 + p ≡ p = omega arith in have_risen_at 0 p es es' below
        (subst (λ m. AtEach (λ i e e'. i ≡ m → OneRose (faults e) (faults e')) 0 es es') (sym same) rose);
    damaged = tt;
    spent = λ never. absurd (cc);
  }

  caused_damaged : (said : RunFault → Type 0) (p : ℕ) (damage : Damage) (es es' : List E) → Stayed es es' → said (Damaged p damage) → Caused said (Some (Damaged p damage)) es es'
  caused_damaged said p damage es es' stayed is = record { stayed = have_stayed_at 0 es es' stayed; disk = tt; damaged = is; spent = λ never. absurd (cc) }

  -- what is said where a call finds damage
  abbrev pub Tells : (RunFault → Type 0) → EnginesFault → Type 0
  Tells said fault = IfOf fault (λ p why. IfEngineDamaged why (λ damage. said (Damaged p damage)))

  -- a fault in a window
  pub caused_window : (said : RunFault → Type 0) (fault : EnginesFault) (es es' : List E) → Stayed es es' → IfOf fault (λ p why. (p < length es) × (why ≡ engine.Disk → RoseAt p es es')) → Tells said fault → Caused said (Some (window_fault_of fault)) es es'
  caused_window said (engines.Of p engine.Disk) es es' stayed is tells = caused_disk said p es es' stayed is.0 (is.1 refl)
  caused_window said (engines.Of p (engine.Damaged damage)) es es' stayed is tells = caused_damaged said p damage es es' stayed tells
  caused_window said (engines.Of p engine.Spent) es es' stayed is tells = caused_memory said es es' stayed
  caused_window said (engines.Of p engine.Memory) es es' stayed is tells = caused_memory said es es' stayed
  caused_window said engines.Memory es es' stayed is tells = caused_memory said es es' stayed

  -- a fault of another call
  pub caused_by : (said : RunFault → Type 0) (fault : EnginesFault) (es es' : List E) → Stayed es es' → IfOf fault (λ p why. (p < length es) × (why ≡ engine.Disk → RoseAt p es es') × (why ≡ engine.Spent → said Spent)) → Tells said fault → Caused said (Some (fault_of_engines fault)) es es'
  caused_by said (engines.Of p engine.Disk) es es' stayed is tells = caused_disk said p es es' stayed is.0 (is.1 refl)
  caused_by said (engines.Of p (engine.Damaged damage)) es es' stayed is tells = caused_damaged said p damage es es' stayed tells
  caused_by said (engines.Of p engine.Spent) es es' stayed is tells = record { stayed = have_stayed_at 0 es es' stayed; disk = tt; damaged = tt; spent = λ same. is.2 refl }
  caused_by said (engines.Of p engine.Memory) es es' stayed is tells = caused_memory said es es' stayed
  caused_by said engines.Memory es es' stayed is tells = caused_memory said es es' stayed

-- what holds of the engine at a place is told
told_at : {E : Type 0} (P : E → Type 0) (n p : ℕ) (es es' : List E) → p < length es → AtEach (λ q old new. q ≡ n + p → P new) n es es' → IsAt p es' P
told_at P n p [] es' below each = absurd (omega (arith, below))
told_at P n p (e ∷ es) [] below each = absurd each
told_at P n zero (e ∷ es) (e' ∷ es') below each = each.0 (omega arith)
told_at P n (suc p) (e ∷ es) (e' ∷ es') below each = let same : n + suc p ≡ suc n + p = omega arith in told_at P (suc n) p es es' (omega (arith, below)) (subst (λ m. AtEach (λ q old new. q ≡ m → P new) (suc n) es es') same each.1)

-- ---- a window

-- a fault of the disk of a partition that was counted
disk_counted : {A : Type 0} (p q : ℕ) (why : EngineFault) (result : Result A EnginesFault) → result ≡ Err (engines.Of p why) → why ≡ engine.Disk → q ≡ p → IsDiskOf q result
disk_counted p q why result is disk same = subst (λ r. IsDiskOf q r) (sym is) (sym same, disk)

module _ {S D F W : Type 0} (counts : W → Counts) where
  pub ran_stayed : (most : ℕ → WithJobs S D F W → ℕ) (failed : ℕ → Type 0) (es es' : List (WithJobs S D F W))
      → AtEach (λ p old new. IsCountedWithin (most p old) (failed p) (counts old.engine.part.main) (counts new.engine.part.main)) 0 es es'
      → AtEach (λ p old new. HasOnlyRun old.engine.part new.engine.part × (new.engine.policy ≡ old.engine.policy) × (new.jobs ≡ old.jobs)) 0 es es'
      → Stayed (faults_at counts) es es'
  ran_stayed most failed es es' counted same =
      at_each-both (λ p old new. IsCountedWithin (most p old) (failed p) (counts old.engine.part.main) (counts new.engine.part.main))
      (λ p old new. HasOnlyRun old.engine.part new.engine.part × (new.engine.policy ≡ old.engine.policy) × (new.jobs ≡ old.jobs))
      (λ p old new. NoneFell (faults_at counts old) (faults_at counts new)) 0 es es'
      (λ p old new c s. ran_stays counts (most p old) (failed p) old new c s.0 s.2) counted same

  -- the counts of the partition whose engine failed in a window
  pub window_rose : {A : Type 0} (most : ℕ → WithJobs S D F W → ℕ) (Q : ℕ → EngineFault → Type 0) (fault : EnginesFault) (result : Result A EnginesFault) (es es' : List (WithJobs S D F W)) → result ≡ Err fault → IfOf fault (λ p why. (p < length es) × Q p why)
      → AtEach (λ q old new. IsCountedWithin (most q old) (IsDiskOf q result) (counts old.engine.part.main) (counts new.engine.part.main)) 0 es es' → IfOf fault (λ p why. (p < length es) × (why ≡ engine.Disk → RoseAt (faults_at counts) p es es'))
  window_rose most Q engines.Memory result es es' is first counted = tt
  window_rose most Q (engines.Of p why) result es es' is first counted = (
    first.0,
    λ disk.
        at_each-so (λ q old new. IsCountedWithin (most q old) (IsDiskOf q result) (counts old.engine.part.main) (counts new.engine.part.main)) (λ q old new. q ≡ p → OneRose (faults_at counts old) (faults_at counts new)) 0 es es'
        (λ q old new c same. inl (c.cause (disk_counted p q why result is disk same))) counted,
  )

-- what an engine met in a window is damage of its part, whose list stays
pub window_met : {S D F W : Type 0} (eyes : Eyes S D F W) (share : ℕ → Keyed Request) (fault : EnginesFault) (es es' : List (WithJobs S D F W)) → AtEach (λ p old new. HasOnlyRun old.engine.part new.engine.part × (new.engine.policy ≡ old.engine.policy) × (new.jobs ≡ old.jobs)) 0 es es'
    → IfOf fault (λ p why. (p < length es) × AtEach (λ q old new. StopsFirst (told_part eyes) eyes.content p why q (share q) old.engine new.engine) 0 es es')
    → IfOf fault (λ p why. IfEngineDamaged why (λ damage. IsAt p es' (λ e. IsPartDamage eyes.content eyes.history e.engine.part damage)))
window_met eyes share engines.Memory es es' same is = tt
window_met eyes share (engines.Of p engine.Disk) es es' same is = tt
window_met {S = S} {D = D} {F = F} {W = W} eyes share (engines.Of p (engine.Damaged damage)) es es' same is =
    let Met : WithJobs S D F W → Type 0 = λ e. IsPartDamage eyes.content eyes.history e.engine.part damage in
    told_at Met 0 p es es' is.0
    (at_each-both (λ q old new. HasOnlyRun old.engine.part new.engine.part × (new.engine.policy ≡ old.engine.policy) × (new.jobs ≡ old.jobs))
    (λ q old new. StopsFirst (told_part eyes) eyes.content p (engine.Damaged damage) q (share q) old.engine new.engine) (λ q old new. q ≡ 0 + p → Met new) 0 es es'
    (λ q old new ran stops here. inl (subst (λ (xs : List (ComponentState F)). IsBytesHarm damage (IsHarmIn eyes.content xs)) (sym (ap (λ (s : PartState S D F W). s.list) ran.0)) (stops.1 (omega (arith, here))).harmed)) same is.1)
window_met eyes share (engines.Of p engine.Spent) es es' same is = tt
window_met eyes share (engines.Of p engine.Memory) es es' same is = tt

-- ---- a call that moves documents

-- at a place that is below the one at which a call failed, or the same, or behind it
by_place : (q p : ℕ) → (q < p) ⊎ ((q ≡ p) ⊎ (p < q))
by_place zero zero = inr (inl refl)
by_place zero (suc p) = inl (omega arith)
by_place (suc q) zero = inr (inr (omega arith))
by_place (suc q) (suc p) = elim (by_place q p) [ inl below ↦ inl (omega (arith, below)) | inr rest ↦ elim rest [ inl same ↦ inr (inl (ap suc same)) | inr above ↦ inr (inr (omega (arith, above))) ] ]

pub stops_so : {E : Type 0} (p q : ℕ) (Done Stopped P : E → E → Type 0) (old new : E) → StopsAt p Done Stopped q old new → (Done old new → P old new) → (q ≡ p → Stopped old new → P old new) → P old old → P old new
stops_so p q Done Stopped P old new stops done stopped same = elim (by_place q p) [
  | inl below ↦ done (stops.0 below)
  | inr rest ↦ elim rest [ inl here ↦ stopped here (stops.1 here) | inr above ↦ subst (λ e. P old e) (sym (stops.2 above)) same ]
]

module _ {S D F W : Type 0} (eyes : Eyes S D F W) where
  abbrev Moves : Type 0 → WithJobs S D F W → WithJobs S D F W → Type 0
  Moves failed old new = HasMoved eyes failed old new

  moved_none_fell : (failed : Type 0) (old new : WithJobs S D F W) → Moves failed old new → NoneFell (faults_at eyes.counts old) (faults_at eyes.counts new)
  moved_none_fell failed old new m = moved_stays eyes.counts failed (watched_part old.engine.part old.jobs) (watched_part new.engine.part new.jobs) m.watched (ap (λ (p : PartState S D F W). p.reader) m.moved)

  -- of all of them
  pub moved_stayed : (Done : WithJobs S D F W → WithJobs S D F W → Type 0) (es es' : List (WithJobs S D F W)) → ((old new : WithJobs S D F W) → Done old new → Moves ⊥ old new) → AtEach (λ p old new. Done old new) 0 es es' → Stayed (faults_at eyes.counts) es es'
  moved_stayed Done es es' moves each =
      at_each-so (λ p old new. Done old new) (λ p old new. NoneFell (faults_at eyes.counts old) (faults_at eyes.counts new)) 0 es es' (λ p old new done. let m = moves old new done in moved_none_fell ⊥ old new m) each

  none_fell : (k : KitFaults) → NoneFell k k
  none_fell k = record { main = omega arith; flusher = omega arith; merger = omega arith; reader = omega arith }

  -- of those up to the one that failed
  stopped_stayed : (p : ℕ) (failed : Type 0) (Done Stopped : WithJobs S D F W → WithJobs S D F W → Type 0) (es es' : List (WithJobs S D F W)) → ((old new : WithJobs S D F W) → Done old new → Moves ⊥ old new) → ((old new : WithJobs S D F W) → Stopped old new → Moves failed old new)
      → AtEach (StopsAt p Done Stopped) 0 es es' → Stayed (faults_at eyes.counts) es es'
  stopped_stayed p failed Done Stopped es es' done stopped stops =
      at_each-so (StopsAt p Done Stopped) (λ q old new. NoneFell (faults_at eyes.counts old) (faults_at eyes.counts new)) 0 es es'
      (λ q old new s. stops_so p q Done Stopped (λ old new. NoneFell (faults_at eyes.counts old) (faults_at eyes.counts new)) old new s
      (λ d. let m = done old new d in moved_none_fell ⊥ old new m)
      (λ here f. let m = stopped old new f in moved_none_fell failed old new m)
      (none_fell (faults_at eyes.counts old)))
      stops

  stopped_rose : (p : ℕ) (failed : Type 0) (Done Stopped : WithJobs S D F W → WithJobs S D F W → Type 0) (es es' : List (WithJobs S D F W))
      → ((old new : WithJobs S D F W) → Stopped old new → Moves failed old new) → failed → AtEach (StopsAt p Done Stopped) 0 es es'
      → RoseAt (faults_at eyes.counts) p es es'
  stopped_rose p failed Done Stopped es es' stopped has stops =
      at_each-so (StopsAt p Done Stopped) (λ q old new. q ≡ p → OneRose (faults_at eyes.counts old) (faults_at eyes.counts new)) 0 es es'
      (λ q old new s here. moved_rose eyes.counts failed (watched_part old.engine.part old.jobs) (watched_part new.engine.part new.jobs) (stopped old new (s.1 here)).watched has) stops

  -- the log of the greatest generation is out, of the partition that has no further one
  stopped_spent : (p : ℕ) (why : EngineFault) (Done Stopped : WithJobs S D F W → WithJobs S D F W → Type 0) (es es' : List (WithJobs S D F W)) → ((old new : WithJobs S D F W) → Stopped old new → HasFailedMoving eyes why old new)
      → p < length es → All (λ e. MayBeAsked (told_of eyes e) e.engine.part) es → AtEach (StopsAt p Done Stopped) 0 es es' → why ≡ engine.Spent → SomeFrom (λ q e. IsSpentAt (told_of eyes e) e.engine.part) 0 es'
  stopped_spent p why Done Stopped es es' fails below asked stops spent =
      let same : 0 + p ≡ p = omega arith in at 0 p es es' below asked (subst (λ m. AtEach (StopsAt m Done Stopped) 0 es es') (sym same) stops)
    where
      at : (n p : ℕ) (es es' : List (WithJobs S D F W)) → p < length es → All (λ e. MayBeAsked (told_of eyes e) e.engine.part) es → AtEach (StopsAt (n + p) Done Stopped) n es es' → SomeFrom (λ q e. IsSpentAt (told_of eyes e) e.engine.part) n es'
      at n p [] es' below asked stops = absurd (omega (arith, below))
      at n p (e ∷ es) [] below asked stops = absurd stops
      at n zero (e ∷ es) (e' ∷ es') below asked stops =
          let here = fails e e' (stops.0.1 (omega arith)) in
          inl (record {
            failed = here.failed;
            last = let now = here.unmoved spent in let before = here.spent spent in omega (arith, now, before);
            log = here.log_out_spent spent (All-head (λ e. MayBeAsked (told_of eyes e) e.engine.part) e es asked).log;
          })
      at n (suc p) (e ∷ es) (e' ∷ es') below asked stops =
          let same : n + suc p ≡ suc n + p = omega arith in
          inr (at (suc n) p es es' (omega (arith, below)) (All-tail (λ e. MayBeAsked (told_of eyes e) e.engine.part) e es asked) (subst (λ m. AtEach (StopsAt m Done Stopped) (suc n) es es') same stops.1))

  -- what one met is damage of its part, as it is left
  stopped_met : (p : ℕ) (why : EngineFault) (Done Stopped : WithJobs S D F W → WithJobs S D F W → Type 0) (es es' : List (WithJobs S D F W)) → ((old new : WithJobs S D F W) → Stopped old new → HasFailedMoving eyes why old new)
      → p < length es → AtEach (StopsAt p Done Stopped) 0 es es' → IfEngineDamaged why (λ damage. IsAt p es' (λ e. IsPartDamage eyes.content eyes.history e.engine.part damage))
  stopped_met p engine.Disk Done Stopped es es' fails below stops = tt
  stopped_met p (engine.Damaged damage) Done Stopped es es' fails below stops =
      let Met : WithJobs S D F W → Type 0 = λ e. IsPartDamage eyes.content eyes.history e.engine.part damage in
      told_at Met 0 p es es' below (at_each-so (StopsAt p Done Stopped) (λ q old new. q ≡ 0 + p → Met new) 0 es es' (λ q old new s here. (fails old new (s.1 (omega (arith, here)))).damaged) stops)
  stopped_met p engine.Spent Done Stopped es es' fails below stops = tt
  stopped_met p engine.Memory Done Stopped es es' fails below stops = tt

  abbrev Said : List (WithJobs S D F W) → RunFault → Type 0
  Said es' = IsSaid (SomeFrom (λ q e. IsSpentAt (told_of eyes e) e.engine.part) 0 es') (λ q damage. IsAt q es' (λ e. IsPartDamage eyes.content eyes.history e.engine.part damage))

  -- what counts over a call that failed
  pub call_caused : (Done : WithJobs S D F W → WithJobs S D F W → Type 0) (Stopped : EngineFault → WithJobs S D F W → WithJobs S D F W → Type 0) (fault : EnginesFault) (es es' : List (WithJobs S D F W))
      → ((old new : WithJobs S D F W) → Done old new → Moves ⊥ old new) → ((why : EngineFault) (old new : WithJobs S D F W) → Stopped why old new → Moves (why ≡ engine.Disk) old new) → ((why : EngineFault) (old new : WithJobs S D F W) → Stopped why old new → HasFailedMoving eyes why old new)
      → All (λ e. MayBeAsked (told_of eyes e) e.engine.part) es → (fault ≡ engines.Memory → ⊥) → IfOf fault (λ p why. (p < length es) × AtEach (StopsAt p Done (Stopped why)) 0 es es') → Caused (faults_at eyes.counts) (Said es') (Some (fault_of_engines fault)) es es'
  call_caused Done Stopped engines.Memory es es' done stopped fails asked never stops = absurd (never refl)
  call_caused Done Stopped (engines.Of p why) es es' done stopped fails asked never stops =
      caused_by (faults_at eyes.counts) (Said es') (engines.Of p why) es es' (stopped_stayed p (why ≡ engine.Disk) Done (Stopped why) es es' done (stopped why) stops.1)
      (stops.0, (λ disk. stopped_rose p (why ≡ engine.Disk) Done (Stopped why) es es' (stopped why) disk stops.1), stopped_spent p why Done (Stopped why) es es' (fails why) stops.0 asked stops.1) (stopped_met p why Done (Stopped why) es es' (fails why) stops.0 stops.1)
