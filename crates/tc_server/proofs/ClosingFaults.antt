-- A run whose lines were all answered, and whose engines ended by a fault when they were closed: it ends as one does behind its
-- windows that could not answer a further one.
use Rattle.std.proofs.Common.{◌≡◌, ◌⊎◌, ◌∙◌, ◌+◌, ℕ, suc, List, [], ◌∷◌, ◌++◌, map, length, append-nil, arith, refl, sym, subst, inl, inr}
use Rattle.std.specs.Prelude.{Option, Some, None, IfErr, IfSome, Result, Ok, Err, slice_get}
use Rattle.tc_run_model.specs.Course.{Shown, behind, finished, stopped, worlds_left, IsReached, Took}
use Rattle.tc_run_model.specs.Windows.{Window}
use Rattle.tc_run_model.specs.World.{World}
use Rattle.tc_store.specs.Disk.{Disk}
use Rattle.tc_work.specs.declared.fault.EngineFault.{EngineFault}
use Rattle.tc_work.specs.declared.fault.EngineFault.TheVariants as engine
use Rattle.tc_words.specs.Options.{options_asked}
use Rattle.tc_words.specs.declared.asked.Invocation.{Invocation}
use Rattle.tc_server.specs.Ending.{RanLeaving, RunsOver}
use Rattle.tc_keeper.specs.Faults.{fault_in, fault_of_engine, EndsAs, IsNoDamage, IsOfJob, IsOfRun, IsWrite}
use Rattle.tc_keeper.specs.Holds.{IsLeft}
use Rattle.tc_server.specs.Kits.{fault_before, fault_behind, least_fault}
use Rattle.tc_server.specs.OverFiles.{AskedOver}
use Rattle.tc_keeper.specs.Places.{EachFrom}
use Rattle.tc_keeper.specs.Sight.{nothing, sees, whole_of, IfKnown, Sight}
use Rattle.tc_keeper.specs.declared.fault.RunFault.{RunFault}
use Rattle.tc_keeper.specs.declared.fault.RunFault.TheVariants.{Usage, Read, Write, Spent, Disk as DiskFault, Damaged, Memory, Layout}
use Rattle.tc_server.proofs.AskedRuns.{asked_over, runs_so}
use Rattle.tc_server.proofs.LeftFiles.{left_alone, LeavesKits}
use Rattle.tc_keeper.proofs.WorldCounts.{many_left}

-- ---- which fault it is

-- of the engine of this one of the kits
pub record IsEndedBy {K : Type 0} (outcome : K → Result (Unit {0}) EngineFault) (n : ℕ) (ks : List K) (fault : RunFault) : Type 0 where
  pub place : ℕ
  pub ended : K
  pub why : EngineFault
  pub at : slice_get ks place ≡ Some ended
  pub by : outcome ended ≡ Err why
  pub is : fault_of_engine (n + place) why ≡ fault

pub ended_by : {K : Type 0} (outcome : K → Result (Unit {0}) EngineFault) (n : ℕ) (ks : List K) (fault : RunFault) → least_fault n (map outcome ks) ≡ Some fault → IsEndedBy outcome n ks fault
ended_by outcome n [] fault is = absurd (cc)
ended_by {K = K} outcome n (k ∷ ks) fault is = one (outcome k) refl is (ended_by outcome (suc n) ks fault)
  where
    one : (r : Result (Unit {0}) EngineFault) → outcome k ≡ r → fault_before n r (least_fault (suc n) (map outcome ks)) ≡ Some fault → (least_fault (suc n) (map outcome ks) ≡ Some fault → IsEndedBy outcome (suc n) ks fault) → IsEndedBy outcome n (k ∷ ks) fault
    one (Ok done) same is more =
        let m = more is in
        let place : suc n + m.place ≡ n + suc m.place = omega arith in
        record { place = suc m.place; ended = m.ended; why = m.why; at = m.at; by = m.by; is = subst (λ p. fault_of_engine p m.why ≡ fault) place m.is }
    one (Err why) same is more =
        let place : n ≡ n + 0 = omega arith in
        let here : fault_of_engine n why ≡ fault = cc in
        record { place = 0; ended = k; why = why; at = refl; by = same; is = subst (λ p. fault_of_engine p why ≡ fault) place here }

-- where there is none each ended well
pub all_well : {K : Type 0} (outcome : K → Result (Unit {0}) EngineFault) (n : ℕ) (ks : List K) → least_fault n (map outcome ks) ≡ None → EachFrom (λ p k. IfErr (outcome k) (λ fault. ⊥)) n ks
all_well outcome n [] none = tt
all_well {K = K} outcome n (k ∷ ks) none = one (outcome k) none (all_well outcome (suc n) ks)
  where
    one : (r : Result (Unit {0}) EngineFault) → fault_before n r (least_fault (suc n) (map outcome ks)) ≡ None
        → (least_fault (suc n) (map outcome ks) ≡ None → EachFrom (λ p k. IfErr (outcome k) (λ fault. ⊥)) (suc n) ks)
        → IfErr r (λ fault. ⊥) × EachFrom (λ p k. IfErr (outcome k) (λ fault. ⊥)) (suc n) ks
    one (Ok done) is more = (tt, more is)
    one (Err why) is more = absurd (cc)

-- ---- what kind it is of

pub is_of_job : (p : ℕ) (why : EngineFault) → (why ≡ engine.Spent → ⊥) → IsOfJob (fault_of_engine p why)
is_of_job p engine.Disk unspent = tt
is_of_job p (engine.Damaged damage) unspent = tt
is_of_job p engine.Spent unspent = unspent refl
is_of_job p engine.Memory unspent = tt

pub job_of_run : (fault : RunFault) → IsOfJob fault → IsOfRun fault
job_of_run Usage is = is
job_of_run Read is = absurd is
job_of_run (Write n) is = absurd is
job_of_run Spent is = absurd is
job_of_run (DiskFault p) is = tt
job_of_run (Damaged p damage) is = tt
job_of_run Memory is = tt
job_of_run (Layout p found found_of asked_of) is = is

job_stops : (spent : Type 0) (fault : RunFault) → IsOfJob fault → EndsAs spent (Some fault) stopped
job_stops spent Usage is = is
job_stops spent Read is = absurd is
job_stops spent (Write n) is = absurd is
job_stops spent Spent is = absurd is
job_stops spent (DiskFault p) is = refl
job_stops spent (Damaged p damage) is = refl
job_stops spent Memory is = refl
job_stops spent (Layout p found found_of asked_of) is = is

-- so it is none of the source nor of the sink
pub never_read : {P : Type 0} (fault : RunFault) → IsOfJob fault → fault ≡ Read → P
never_read fault of same = absurd (subst IsOfJob same of)

pub never_write : {P : Type 0} (fault : RunFault) → IsOfJob fault → IsWrite fault → P
never_write Usage of is = absurd of
never_write Read of is = absurd of
never_write (Write n) of is = absurd of
never_write Spent of is = absurd of
never_write (DiskFault p) of is = absurd is
never_write (Damaged p damage) of is = absurd is
never_write Memory of is = absurd is
never_write (Layout p found found_of asked_of) of is = absurd of

pub never_spent : {P : Type 0} (ended : Option RunFault) → IfSome ended IsOfJob → ended ≡ Some Spent → P
never_spent ended of same = absurd (subst (λ o. IfSome o IsOfJob) same of)

-- what holds of a fault of the lines and of one of the engines holds of that by which the run ended
pub behind_so : (P : RunFault → Type 0) (answer : Result (Unit {0}) RunFault) (ended : Option RunFault) → IfSome (fault_in answer) P → (fault_in answer ≡ None → IfSome ended P) → IfSome (fault_behind answer ended) P
behind_so P (Err fault) ended of_lines of_engines = of_lines
behind_so P (Ok done) ended of_lines of_engines = of_engines refl

pub ended_so : (P : RunFault → Type 0) (ended : Option RunFault) → ((fault : RunFault) → IsOfJob fault → P fault) → IfSome ended IsOfJob → IfSome ended P
ended_so P None so of = tt
ended_so P (Some fault) so of = so fault of

pub spent_behind : {P : Type 0} (answer : Result (Unit {0}) RunFault) (ended : Option RunFault) → IfSome ended IsOfJob → (fault_in answer ≡ Some Spent → P) → fault_behind answer ended ≡ Some Spent → P
spent_behind (Err fault) ended of spent same = spent same
spent_behind (Ok done) ended of spent same = never_spent ended of same

-- ---- the run

module _ {K : Type 0} (holds : K → Sight → Type 0) (keeps : K → Option ℕ → World → World → Type 0) (spent : K → Type 0) (k : K) where
  -- the store is left at the world behind all windows
  left_behind : (first : Sight) (answered : List Window) (last : Window) → IsLeft holds keeps k first (λ w. worlds_left finished w answered last) → IsLeft holds keeps k first (λ w. worlds_left stopped w answered [])
  left_behind nothing answered last left = tt
  left_behind (sees only w) answered last left = record {
    one = left.one;
    other = left.other;
    one_of = elim left.one_of [ inl same ↦ inl same | inr never ↦ absurd never ];
    other_of = elim left.other_of [ inl same ↦ inl same | inr never ↦ absurd never ];
    left = left.left;
  }

  sound_behind : (count : ℕ) (fault : RunFault) (first : Sight) (answered : List Window) (last : Window) → ((only : Option ℕ) (v : World) → length v.parts ≡ count → holds k (sees only v) ⊎ keeps k only v v → IsNoDamage only fault) → IfKnown first (λ only w. length w.parts ≡ count)
      → IsLeft holds keeps k first (λ w. worlds_left finished w answered last) → IfKnown first (λ only w. IfSome (Some fault) (IsNoDamage only))
  sound_behind count fault nothing answered last sound many left = tt
  sound_behind count fault (sees only w) answered last sound many left = sound only (behind w answered) (many_left count w finished answered last many (behind w answered) (inl refl)) (left_alone holds keeps k only (behind w answered) left)

  -- the same run, which a fault of what was waited for ended behind its windows
  pub ran_stopped : (shown : Shown) (fault : RunFault) (first : Sight) (most : ℕ) (unread unread' taken taken' : Option (List ℕ)) → IsOfJob fault → (r : RanLeaving shown holds keeps spent None first most unread unread' taken taken' k)
      → IfKnown first (λ only w. IfSome (Some fault) (IsNoDamage only)) → RanLeaving shown holds keeps spent (Some fault) first most unread unread' taken taken' k
  ran_stopped shown fault first most unread unread' taken taken' of r sound =
      let reached = subst (λ e. IsReached e most r.run.ran.input unread' r.run.ran.answered r.run.ran.last) r.run.by r.run.ran.reached in
      let left = subst (λ e. IsLeft holds keeps k first (λ w. worlds_left e w r.run.ran.answered r.run.ran.last)) r.run.by r.left in record {
        run = record {
          ending = stopped;
          by = job_stops (spent k) fault of;
          ran = record {
            input = r.run.ran.input;
            consumed = r.run.ran.consumed;
            answered = r.run.ran.answered;
            last = [];
            replies = r.run.ran.replies;
            given = r.run.ran.given;
            reached = (r.run.ran.answered, inr (reached.0, reached.1), record { more = []; goes_on = sym (append-nil r.run.ran.answered) ∙ sym (append-nil (r.run.ran.answered ++ [])) });
            took = subst (λ e. Took shown e (whole_of first) r.run.ran.answered r.run.ran.last r.run.ran.replies taken taken') r.run.by r.run.ran.took;
          };
        };
        sound = sound;
        left = left_behind first r.run.ran.answered r.run.ran.last left;
        stands = λ never. absurd (cc);
      }

  ran_behind : (count : ℕ) (shown : Shown) (fault : RunFault) (first : Sight) (most : ℕ) (unread unread' taken taken' : Option (List ℕ)) → IsOfJob fault
      → ((only : Option ℕ) (v : World) → length v.parts ≡ count → holds k (sees only v) ⊎ keeps k only v v → IsNoDamage only fault)
      → IfKnown first (λ only w. length w.parts ≡ count)
      → RanLeaving shown holds keeps spent None first most unread unread' taken taken' k → RanLeaving shown holds keeps spent (Some fault) first most unread unread' taken taken' k
  ran_behind count shown fault first most unread unread' taken taken' of sound many r =
      ran_stopped shown fault first most unread unread' taken taken' of r
      (sound_behind count fault first r.run.ran.answered r.run.ran.last sound many (subst (λ e. IsLeft holds keeps k first (λ w. worlds_left e w r.run.ran.answered r.run.ran.last)) r.run.by r.left))

-- over open partitions, whose files are these where they are closed, and whose engines ended by this fault, or by none
pub closed_over : {K : Type 0} (holds : K → Sight → Type 0) (keeps : K → Option ℕ → World → World → Type 0) (rests : Type 0) (spent : K → Type 0) (asked : Invocation)
    (answer : Result (Unit {0}) RunFault) (ended : Option RunFault) (first : Sight) (files : ℕ → List Disk) (most : ℕ) (left left' taken taken' : Option (List ℕ))
    (k : K) (kits : List (List Disk))
    → most ≡ (options_asked asked).window → LeavesKits holds keeps (rests × (ended ≡ None)) (options_asked asked) k kits → (fault_in answer ≡ None → rests) → IfKnown first (λ only w. length w.parts ≡ (options_asked asked).partitions) → IfSome (fault_in answer) IsOfRun → IfSome ended IsOfJob
    → (rests → (only : Option ℕ) (v : World) → length v.parts ≡ (options_asked asked).partitions → holds k (sees only v) ⊎ keeps k only v v → IfSome ended (IsNoDamage only))
    → RunsOver asked left left' (λ shown unread unread'. RanLeaving shown holds keeps spent (fault_in answer) first most unread unread' taken taken' k) → AskedOver asked (fault_behind answer ended) first files left left' taken taken' kits
closed_over holds keeps rests spent asked (Err fault) ended first files most left left' taken taken' k kits same leaves rest many kind of sound ran =
    asked_over holds keeps (rests × (ended ≡ None)) spent asked (Some fault) first files most left left' taken taken' k kits same leaves (λ never. absurd (cc)) many kind ran
closed_over holds keeps rests spent asked (Ok done) None first files most left left' taken taken' k kits same leaves rest many kind of sound ran =
    asked_over holds keeps (rests × (◌≡◌ {A = Option RunFault} None None)) spent asked None first files most left left' taken taken' k kits same leaves (λ none. (rest refl, refl)) many tt ran
closed_over holds keeps rests spent asked (Ok done) (Some fault) first files most left left' taken taken' k kits same leaves rest many kind of sound ran =
    asked_over holds keeps (rests × (◌≡◌ {A = Option RunFault} (Some fault) None)) spent asked (Some fault) first files most left left' taken taken' k kits same leaves (λ never. absurd (cc)) many (job_of_run fault of)
    (runs_so asked left left' (λ shown unread unread'. RanLeaving shown holds keeps spent None first most unread unread' taken taken' k) (λ shown unread unread'. RanLeaving shown holds keeps spent (Some fault) first most unread unread' taken taken' k)
    (λ shown unread unread'. ran_behind holds keeps spent k (options_asked asked).partitions shown fault first most unread unread' taken taken' of (sound (rest refl)) many) ran)
