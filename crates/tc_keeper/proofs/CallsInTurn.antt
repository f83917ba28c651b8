-- Engines are called one after the other, up to the first fault.
use Rattle.std.proofs.Common.{◌≡◌, ◌∙◌, ◌≤◌, ◌<◌, ◌+◌, ℕ, zero, suc, List, [], ◌∷◌, length, set, arith, refl, sym, subst}
use Rattle.std.specs.Prelude.{slice_index_or, All, Result, Ok, Err, IfErr, IsErrOf, OnErr}
use Rattle.std.proofs.lemmas.List.{length-set}
use Rattle.std.proofs.lemmas.List.Elements.{All-head, All-tail}
use Rattle.tc_work.specs.declared.fault.EngineFault.{EngineFault}
use Rattle.tc_keeper.specs.EngineFaults.{IfOf}
use Rattle.tc_keeper.specs.Moving.{StopsAt}
use Rattle.tc_keeper.specs.Places.{AtEach}
use Rattle.tc_keeper.specs.declared.engines_fault.EnginesFault.{EnginesFault}
use Rattle.tc_keeper.specs.declared.engines_fault.EnginesFault.TheVariants.{Of, Memory}
use Rattle.tc_keeper.proofs.PlaceLaws.{at_each-same}

-- those before a place are done, and the others are as they were
abbrev pub IsDoneTo : {E : Type 0} → (E → E → Type 0) → ℕ → ℕ → E → E → Type 0
IsDoneTo Done at p old now = (p < at → Done old now) × (at ≤ p → now ≡ old)

pub record Doing {E : Type 0} (Done : E → E → Type 0) (olds nows : List E) (at : ℕ) : Type 0 where
  pub each : AtEach (IsDoneTo Done at) 0 olds nows
  pub many : length nows ≡ length olds

pub doing_none : {E : Type 0} (Done : E → E → Type 0) (olds : List E) → Doing Done olds olds 0
doing_none Done olds = record { each = at_each-same (IsDoneTo Done 0) 0 olds (λ p x. (λ less. absurd (omega (arith, less)), λ le. refl)); many = refl }

-- ---- the one at the place

-- it is as it was, so that what holds of each of the old ones holds of it
there_still : {E : Type 0} (Done : E → E → Type 0) (P : E → Type 0) (at p k : ℕ) (olds nows : List E) (s : E) → at ≡ p + k → k < length nows → s ≡ slice_index_or nows k s → All P olds → AtEach (IsDoneTo Done at) p olds nows → P s
there_still Done P at p k [] [] s here below is each all = absurd (omega (arith, below))
there_still Done P at p k [] (n ∷ nows) s here below is each all = absurd all
there_still Done P at p k (o ∷ olds) [] s here below is each all = absurd all
there_still Done P at p zero (o ∷ olds) (n ∷ nows) s here below is each all =
    let same : s ≡ o = is ∙ all.0.1 (omega (arith, here)) in
    subst P (sym same) (All-head P o olds each)
there_still Done P at p (suc k) (o ∷ olds) (n ∷ nows) s here below is each all = there_still Done P at (suc p) k olds nows s (omega (arith, here)) (omega (arith, below)) is (All-tail P o olds each) all.1

pub doing_still : {E : Type 0} (Done : E → E → Type 0) (P : E → Type 0) (olds nows : List E) (at : ℕ) (s : E) → Doing Done olds nows at → at < length nows → s ≡ slice_index_or nows at s → All P olds → P s
doing_still Done P olds nows at s h below is each = there_still Done P at 0 at olds nows s (omega arith) below is each h.each

-- ---- one more

behind_done : {E : Type 0} (Done : E → E → Type 0) (at p : ℕ) (olds nows : List E) → at < p → AtEach (IsDoneTo Done at) p olds nows → AtEach (IsDoneTo Done (suc at)) p olds nows
behind_done Done at p [] [] less all = tt
behind_done Done at p [] (n ∷ nows) less all = absurd all
behind_done Done at p (o ∷ olds) [] less all = absurd all
behind_done Done at p (o ∷ olds) (n ∷ nows) less all =
    ((λ before. absurd (omega (arith, less, before)), λ le. all.0.1 (omega (arith, le))), behind_done Done at (suc p) olds nows (omega (arith, less)) all.1)

put_done : {E : Type 0} (Done : E → E → Type 0) (at p k : ℕ) (olds nows : List E) (s t : E) → at ≡ p + k → k < length nows → s ≡ slice_index_or nows k s → Done s t → AtEach (IsDoneTo Done at) p olds nows
    → AtEach (IsDoneTo Done (suc at)) p olds (set nows k t)
put_done Done at p k [] [] s t here below is done all = absurd (omega (arith, below))
put_done Done at p k [] (n ∷ nows) s t here below is done all = absurd all
put_done Done at p k (o ∷ olds) [] s t here below is done all = absurd all
put_done Done at p zero (o ∷ olds) (n ∷ nows) s t here below is done all =
    let same : s ≡ o = is ∙ all.0.1 (omega (arith, here)) in
    ((λ before. subst (λ e. Done e t) same done, λ le. absurd (omega (arith, here, le))), behind_done Done at (suc p) olds nows (omega (arith, here)) all.1)
put_done Done at p (suc k) (o ∷ olds) (n ∷ nows) s t here below is done all =
    ((λ before. all.0.0 (omega (arith, here)), λ le. absurd (omega (arith, here, le))), put_done Done at (suc p) k olds nows s t (omega (arith, here)) (omega (arith, below)) is done all.1)

pub doing_more : {E : Type 0} (Done : E → E → Type 0) (olds nows : List E) (at : ℕ) (s t : E) → Doing Done olds nows at → at < length nows → s ≡ slice_index_or nows at s → Done s t → Doing Done olds (set nows at t) (at + 1)
doing_more Done olds nows at s t h below is done =
    let next : suc at ≡ at + 1 = omega arith in
    let put : Doing Done olds (set nows at t) (suc at) = record { each = put_done Done at 0 at olds nows s t (omega arith) below is done h.each; many = length-set nows at t ∙ h.many } in
    subst (Doing Done olds (set nows at t)) next put

-- ---- a fault

behind_fault : {E : Type 0} (Done Stopped : E → E → Type 0) (at p : ℕ) (olds nows : List E) → at < p → AtEach (IsDoneTo Done at) p olds nows → AtEach (StopsAt at Done Stopped) p olds nows
behind_fault Done Stopped at p [] [] less all = tt
behind_fault Done Stopped at p [] (n ∷ nows) less all = absurd all
behind_fault Done Stopped at p (o ∷ olds) [] less all = absurd all
behind_fault Done Stopped at p (o ∷ olds) (n ∷ nows) less all =
    ((λ before. absurd (omega (arith, less, before)), λ same. absurd (omega (arith, less, same)), λ after. all.0.1 (omega (arith, less))), behind_fault Done Stopped at (suc p) olds nows (omega (arith, less)) all.1)

put_fault : {E : Type 0} (Done Stopped : E → E → Type 0) (at p k : ℕ) (olds nows : List E) (s t : E) → at ≡ p + k → k < length nows → s ≡ slice_index_or nows k s → Stopped s t → AtEach (IsDoneTo Done at) p olds nows
    → AtEach (StopsAt at Done Stopped) p olds (set nows k t)
put_fault Done Stopped at p k [] [] s t here below is stopped all = absurd (omega (arith, below))
put_fault Done Stopped at p k [] (n ∷ nows) s t here below is stopped all = absurd all
put_fault Done Stopped at p k (o ∷ olds) [] s t here below is stopped all = absurd all
put_fault Done Stopped at p zero (o ∷ olds) (n ∷ nows) s t here below is stopped all =
    let same : s ≡ o = is ∙ all.0.1 (omega (arith, here)) in
    ((λ before. absurd (omega (arith, here, before)), λ there. subst (λ e. Stopped e t) same stopped, λ after. absurd (omega (arith, here, after))), behind_fault Done Stopped at (suc p) olds nows (omega (arith, here)) all.1)
put_fault Done Stopped at p (suc k) (o ∷ olds) (n ∷ nows) s t here below is stopped all =
    ((λ before. all.0.0 before, λ there. absurd (omega (arith, here, there)), λ after. absurd (omega (arith, here, after))), put_fault Done Stopped at (suc p) k olds nows s t (omega (arith, here)) (omega (arith, below)) is stopped all.1)

pub doing_fault : {E : Type 0} (Done Stopped : E → E → Type 0) (olds nows : List E) (at : ℕ) (s t : E) → Doing Done olds nows at → at < length nows → s ≡ slice_index_or nows at s → Stopped s t
    → AtEach (StopsAt at Done Stopped) 0 olds (set nows at t)
doing_fault Done Stopped olds nows at s t h below is stopped = put_fault Done Stopped at 0 at olds nows s t (omega arith) below is stopped h.each

-- ---- all of them

all_done : {E : Type 0} (Done : E → E → Type 0) (at p : ℕ) (olds nows : List E) → p + length nows ≤ at → AtEach (IsDoneTo Done at) p olds nows → AtEach (λ q old new. Done old new) p olds nows
all_done Done at p [] [] ends all = tt
all_done Done at p [] (n ∷ nows) ends all = absurd all
all_done Done at p (o ∷ olds) [] ends all = absurd all
all_done Done at p (o ∷ olds) (n ∷ nows) ends all =
    (all.0.0 (omega (arith, ends)), all_done Done at (suc p) olds nows (omega (arith, ends)) all.1)

pub doing_all : {E : Type 0} (Done : E → E → Type 0) (olds nows : List E) (at : ℕ) → Doing Done olds nows at → length nows ≤ at → AtEach (λ q old new. Done old new) 0 olds nows
doing_all Done olds nows at h ends = all_done Done at 0 olds nows (omega (arith, ends)) h.each

-- ---- by what was answered

pub if_of_so : {A : Type 0} (r : Result A EnginesFault) (P Q : ℕ → EngineFault → Type 0) → ((p : ℕ) (why : EngineFault) → P p why → Q p why) → IfErr r (λ fault. IfOf fault P) → IfErr r (λ fault. IfOf fault Q)
if_of_so (Ok x) P Q so is = tt
if_of_so (Err (Of p why)) P Q so is = so p why is
if_of_so (Err Memory) P Q so is = tt

pub err_of : {A B : Type 0} (r : Result A EnginesFault) (P : ℕ → EngineFault → Type 0) → (IsErrOf r Memory → ⊥) → ((p : ℕ) (why : EngineFault) → P p why → B) → IfErr r (λ fault. IfOf fault P) → OnErr r B
err_of (Ok x) P never so is = tt
err_of (Err (Of p why)) P never so is = so p why is
err_of (Err Memory) P never so is = absurd (never refl)
