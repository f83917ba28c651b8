-- What is said of each engine behind a window, by what it ran.
use Rattle.std.proofs.Common.{◌≡◌, ◌∙◌, ◌<◌, ◌+◌, ℕ, zero, suc, false, List, [], ◌∷◌, length, map, arith, ap, sym, subst}
use Rattle.std.specs.Prelude.{All, Result, Ok, Err}
use Rattle.tc_model.specs.Keyed.{Keyed, values_in}
use Rattle.tc_request_model.specs.Request.{Request}
use Rattle.tc_store.specs.Counted.{Counts}
use Rattle.tc_route.specs.Shares.{share}
use Rattle.tc_route.specs.declared.placed.Placed.{Placed}
use Rattle.tc_work.specs.Moving.{told_part, Eyes}
use Rattle.tc_work.specs.Reads.{live_in, most_reads, IsCountedWithin}
use Rattle.tc_work.specs.declared.fault.EngineFault.{EngineFault}
use Rattle.tc_work.specs.declared.fault.EngineFault.TheVariants.{Disk as disk_fault}
use Rattle.tc_keeper.specs.EngineFaults.{IsFirstFault, HasStopped, StopsFirst}
use Rattle.tc_keeper.specs.Places.{AtEach}
use Rattle.tc_keeper.specs.WithJobs.{WithJobs}
use Rattle.tc_keeper.proofs.PlaceLaws.{all_second, at_each-reads, at_each-so, at_each-with}
use Rattle.tc_keeper.proofs.WindowsHeld.{EachRan, HasRunBeside, IsGiven, Ran, given_all}

-- ---- all answered

-- what holds of each engine that answered
pub if_given : {S D F W : Type 0} (eyes : Eyes S D F W) (window : Keyed Request) (es : List (WithJobs S D F W)) (rs : List (Ran S D F W)) (xs : List (List Placed)) (Q : ℕ → WithJobs S D F W → WithJobs S D F W → Type 0)
    → ((p : ℕ) (e f : WithJobs S D F W) (x : List Placed) → HasRunBeside eyes (share (length es) p window) e f (Ok x) → Q p e f)
    → map (λ r. r.1) rs ≡ map Ok xs → EachRan eyes window es rs → AtEach Q 0 es (map (λ r. r.0) rs)
if_given eyes window es rs xs Q so answers ran =
    at_each-reads (λ r. r.0) Q 0 es rs
    (at_each-so (λ p e r. IsGiven r.1 × HasRunBeside eyes (share (length es) p window) e r.0 r.1) (λ p e r. Q p e r.0) 0 es rs
    (λ p e r both. so p e r.0 both.0.0 (subst (HasRunBeside eyes (share (length es) p window) e r.0) both.0.1 both.1))
    (at_each-with (λ r. IsGiven r.1) (λ p e r. HasRunBeside eyes (share (length es) p window) e r.0 r.1) 0 es rs (given_all rs xs answers) ran))

-- and whatever it answered
pub if_run : {S D F W : Type 0} (eyes : Eyes S D F W) (window : Keyed Request) (es : List (WithJobs S D F W)) (rs : List (Ran S D F W)) (Q : ℕ → WithJobs S D F W → WithJobs S D F W → Type 0)
    → ((p : ℕ) (e f : WithJobs S D F W) (answer : Result (List Placed) EngineFault) → HasRunBeside eyes (share (length es) p window) e f answer → Q p e f)
    → EachRan eyes window es rs → AtEach Q 0 es (map (λ r. r.0) rs)
if_run eyes window es rs Q so ran =
    at_each-reads (λ r. r.0) Q 0 es rs
    (at_each-so (λ p e r. HasRunBeside eyes (share (length es) p window) e r.0 r.1) (λ p e r. Q p e r.0) 0 es rs (λ p e r one. so p e r.0 r.1 one) ran)

pub all_sound : {S D F W : Type 0} (eyes : Eyes S D F W) (window : Keyed Request) (es : List (WithJobs S D F W)) (rs : List (Ran S D F W)) (xs : List (List Placed))
    → map (λ r. r.1) rs ≡ map Ok xs → EachRan eyes window es rs → All (λ e. e.engine.part.failed ≡ false) (map (λ r. r.0) rs)
all_sound eyes window es rs xs answers ran =
    all_second (λ e. e.engine.part.failed ≡ false) 0 es (map (λ r. r.0) rs) (if_given eyes window es rs xs (λ p e f. f.engine.part.failed ≡ false) (λ p e f x one. one.0.sound) answers ran)

-- ---- the first fault

-- the engine at a place before the fault has not failed, and that at its place has, by this fault
abbrev pub FirstAt : {S D F W : Type 0} → Eyes S D F W → ℕ → Keyed Request → ℕ → EngineFault → ℕ → WithJobs S D F W → Ran S D F W → Type 0
FirstAt eyes count window at why q e r =
    (q < at → r.0.engine.part.failed ≡ false) × (q ≡ at → (r.1 ≡ Err why) × HasStopped (told_part eyes) eyes.content why (share count q window) e.engine r.0.engine)

stopped : {S D F W : Type 0} (eyes : Eyes S D F W) (rs : Keyed Request) (why : EngineFault) (e f : WithJobs S D F W)
    → HasRunBeside eyes rs e f (Err why) → HasStopped (told_part eyes) eyes.content why rs e.engine f.engine
stopped eyes rs why e f ran = record { failed = ran.0.left; harmed = ran.0.harmed; undamaged = ran.0.undamaged; spent = λ is. ran.0.spent (ap Err is); unspent = λ is. ran.0.unspent (ap Err is) }

-- the places behind it
behind : {S D F W : Type 0} (eyes : Eyes S D F W) (count : ℕ) (window : Keyed Request) (at : ℕ) (why : EngineFault) (p : ℕ) (es : List (WithJobs S D F W)) (rs : List (Ran S D F W)) → at < p
    → AtEach (λ i e r. HasRunBeside eyes (share count i window) e r.0 r.1) p es rs → AtEach (FirstAt eyes count window at why) p es rs
behind eyes count window at why p [] [] less ran = tt
behind eyes count window at why p [] (r ∷ rs) less ran = absurd ran
behind eyes count window at why p (e ∷ es) [] less ran = absurd ran
behind eyes count window at why p (e ∷ es) (r ∷ rs) less ran =
    ((λ below. absurd (omega (arith, less, below)), λ same. absurd (omega (arith, less, same))), behind eyes count window at why (suc p) es rs (omega (arith, less)) ran.1)

first_from : {S D F W : Type 0} (eyes : Eyes S D F W) (count : ℕ) (window : Keyed Request) (at : ℕ) (why : EngineFault) (p k : ℕ) (es : List (WithJobs S D F W)) (rs : List (Ran S D F W)) → at ≡ p + k → IsFirstFault k why (map (λ r. r.1) rs)
    → AtEach (λ i e r. HasRunBeside eyes (share count i window) e r.0 r.1) p es rs → AtEach (FirstAt eyes count window at why) p es rs
first_from eyes count window at why p k [] [] here is ran = tt
first_from eyes count window at why p k [] (r ∷ rs) here is ran = absurd ran
first_from eyes count window at why p k (e ∷ es) [] here is ran = absurd ran
first_from eyes count window at why p zero (e ∷ es) ((f, Ok x) ∷ rs) here is ran = absurd is
first_from eyes count window at why p zero (e ∷ es) ((f, Err fault) ∷ rs) here is ran =
    let own : HasRunBeside eyes (share count p window) e f (Err why) = subst (λ y. HasRunBeside eyes (share count p window) e f (Err y)) is ran.0 in
    ((λ below. absurd (omega (arith, here, below)), λ same. (ap Err is, stopped eyes (share count p window) why e f own)), behind eyes count window at why (suc p) es rs (omega (arith, here)) ran.1)
first_from eyes count window at why p (suc k) (e ∷ es) ((f, Ok x) ∷ rs) here is ran =
    ((λ below. ran.0.0.sound, λ same. absurd (omega (arith, here, same))), first_from eyes count window at why (suc p) k es rs (omega (arith, here)) is ran.1)
first_from eyes count window at why p (suc k) (e ∷ es) ((f, Err fault) ∷ rs) here is ran = absurd is

pub first_at : {S D F W : Type 0} (eyes : Eyes S D F W) (window : Keyed Request) (at : ℕ) (why : EngineFault) (es : List (WithJobs S D F W)) (rs : List (Ran S D F W)) → IsFirstFault at why (map (λ r. r.1) rs)
    → EachRan eyes window es rs → AtEach (FirstAt eyes (length es) window at why) 0 es rs
first_at eyes window at why es rs is ran = first_from eyes (length es) window at why 0 at es rs (omega arith) is ran

pub stops_first : {S D F W : Type 0} (eyes : Eyes S D F W) (window : Keyed Request) (at : ℕ) (why : EngineFault) (es : List (WithJobs S D F W)) (rs : List (Ran S D F W)) → IsFirstFault at why (map (λ r. r.1) rs)
    → EachRan eyes window es rs → AtEach (λ q e f. StopsFirst (told_part eyes) eyes.content at why q (share (length es) q window) e.engine f.engine) 0 es (map (λ r. r.0) rs)
stops_first eyes window at why es rs is ran =
    at_each-reads (λ r. r.0) (λ q e f. StopsFirst (told_part eyes) eyes.content at why q (share (length es) q window) e.engine f.engine) 0 es rs
    (at_each-so (FirstAt eyes (length es) window at why) (λ q e r. StopsFirst (told_part eyes) eyes.content at why q (share (length es) q window) e.engine r.0.engine) 0 es rs (λ q e r one. (one.0, λ same. (one.1 same).1))
    (first_at eyes window at why es rs is ran))

-- ---- what is counted

-- a cause that comes only with that of the engine
weaker : {A B : Type 0} (n : ℕ) (old new : Counts) → (B → A) → IsCountedWithin n A old new → IsCountedWithin n B old new
weaker n old new causes counted = record { faults = counted.faults; cause = λ b. counted.cause (causes b); reads = counted.reads }

pub counted_first : {S D F W : Type 0} (eyes : Eyes S D F W) (window : Keyed Request) (at : ℕ) (why : EngineFault) (es : List (WithJobs S D F W)) (rs : List (Ran S D F W)) → IsFirstFault at why (map (λ r. r.1) rs)
    → EachRan eyes window es rs → AtEach (λ q e f. IsCountedWithin (most_reads (live_in e.engine.part) (values_in (share (length es) q window))) ((at ≡ q) × (why ≡ disk_fault)) (eyes.counts e.engine.part.main) (eyes.counts f.engine.part.main)) 0 es (map (λ r. r.0) rs)
counted_first eyes window at why es rs is ran =
    at_each-reads (λ r. r.0) (λ q e f. IsCountedWithin (most_reads (live_in e.engine.part) (values_in (share (length es) q window))) ((at ≡ q) × (why ≡ disk_fault)) (eyes.counts e.engine.part.main) (eyes.counts f.engine.part.main)) 0 es rs
    (both 0 es rs (first_at eyes window at why es rs is ran) ran)
  where
    one : (q : ℕ) (e f : WithJobs _ _ _ _) (answer : Result (List Placed) EngineFault) → FirstAt eyes (length es) window at why q e (f, answer) → HasRunBeside eyes (share (length es) q window) e f answer
        → IsCountedWithin (most_reads (live_in e.engine.part) (values_in (share (length es) q window))) ((at ≡ q) × (why ≡ disk_fault)) (eyes.counts e.engine.part.main) (eyes.counts f.engine.part.main)
    one q e f answer first ran = weaker (most_reads (live_in e.engine.part) (values_in (share (length es) q window))) (eyes.counts e.engine.part.main) (eyes.counts f.engine.part.main)
        (λ cause. (first.1 (sym cause.0)).0 ∙ ap Err cause.1) ran.0.counted

    both : (p : ℕ) (xs : List (WithJobs _ _ _ _)) (ys : List (Ran _ _ _ _)) → AtEach (FirstAt eyes (length es) window at why) p xs ys → AtEach (λ q e r. HasRunBeside eyes (share (length es) q window) e r.0 r.1) p xs ys
        → AtEach (λ q e r. IsCountedWithin (most_reads (live_in e.engine.part) (values_in (share (length es) q window))) ((at ≡ q) × (why ≡ disk_fault)) (eyes.counts e.engine.part.main) (eyes.counts r.0.engine.part.main)) p xs ys
    both p [] [] first ran = tt
    both p [] (r ∷ ys) first ran = absurd ran
    both p (e ∷ xs) [] first ran = absurd ran
    both p (e ∷ xs) (r ∷ ys) first ran = (one p e r.0 r.1 first.0 ran.0, both (suc p) xs ys first.1 ran.1)
