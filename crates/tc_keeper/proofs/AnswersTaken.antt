-- Answers are taken one after the other, up to the first fault.
use Rattle.std.proofs.Common.{◌≡◌, ◌∙◌, ◌≤◌, ◌<◌, ℕ, zero, suc, ◌+◌, List, [], ◌∷◌, ◌++◌, length, map, set, take, arith, refl, ap, sym, subst}
use Rattle.std.specs.Prelude.{slice_index_or, Result, Ok, Err}
use Rattle.std.proofs.lemmas.List.{length-set}
use Rattle.tc_work.specs.declared.fault.EngineFault.{EngineFault}
use Rattle.tc_keeper.specs.EngineFaults.{IsFirstFault}
use Rattle.tc_keeper.specs.Places.{AtEach}
use Rattle.tc_keeper.proofs.PlaceLaws.{at_each-same, at_each-so, head_same, tail_same}

-- where the answers before a place are taken: f reads the same, and g does from there on
abbrev pub IsTakenTo : {X U V : Type 0} → (X → U) → (X → V) → ℕ → ℕ → X → X → Type 0
IsTakenTo f g at p old now = (f now ≡ f old) × (at ≤ p → g now ≡ g old)

pub record Taking {X U A : Type 0} (f : X → U) (g : X → Result A EngineFault) (olds nows : List X) (at : ℕ) (parts : List A) : Type 0 where
  pub each : AtEach (IsTakenTo f g at) 0 olds nows
  pub many : length nows ≡ length olds
  pub given : take at (map g olds) ≡ map Ok parts

pub taking_none : {X U A : Type 0} (f : X → U) (g : X → Result A EngineFault) (olds : List X) → Taking f g olds olds 0 []
taking_none f g olds = record { each = at_each-same (IsTakenTo f g 0) 0 olds (λ p x. (refl, λ le. refl)); many = refl; given = refl }

-- ---- one more

put_at : {X U V : Type 0} (f : X → U) (g : X → V) (at p k : ℕ) (olds nows : List X) (s t : X) → at ≡ p + k → k < length nows → s ≡ slice_index_or nows k s → f t ≡ f s → AtEach (IsTakenTo f g at) p olds nows → AtEach (IsTakenTo f g (suc at)) p olds (set nows k t)
put_at f g at p k [] [] s t here below is same all = absurd (omega (arith, below))
put_at f g at p k [] (n ∷ nows) s t here below is same all = absurd all
put_at f g at p k (o ∷ olds) [] s t here below is same all = absurd all
put_at f g at p zero (o ∷ olds) (n ∷ nows) s t here below is same all = (
  (same ∙ ap f is ∙ all.0.0, λ le. absurd (omega (arith, here, le))),
  at_each-so (IsTakenTo f g at) (IsTakenTo f g (suc at)) (suc p) olds nows (λ i x y one. (one.0, λ le. one.1 (omega (arith, le)))) all.1,
)
put_at f g at p (suc k) (o ∷ olds) (n ∷ nows) s t here below is same all =
    ((all.0.0, λ le. all.0.1 (omega (arith, le))), put_at f g at (suc p) k olds nows s t (omega (arith, here)) (omega (arith, below)) is same all.1)

-- what is there at the place is what was there
there : {X U V : Type 0} (f : X → U) (g : X → V) (at p k : ℕ) (olds nows : List X) (s : X) → at ≡ p + k → k < length nows → s ≡ slice_index_or nows k s → AtEach (IsTakenTo f g at) p olds nows → g s ≡ slice_index_or (map g olds) k (g s)
there f g at p k [] [] s here below is all = absurd (omega (arith, below))
there f g at p k [] (n ∷ nows) s here below is all = absurd all
there f g at p k (o ∷ olds) [] s here below is all = absurd all
there f g at p zero (o ∷ olds) (n ∷ nows) s here below is all = ap g is ∙ all.0.1 (omega (arith, here))
there f g at p (suc k) (o ∷ olds) (n ∷ nows) s here below is all = there f g at (suc p) k olds nows s (omega (arith, here)) (omega (arith, below)) is all.1

given_more : {A : Type 0} (answers : List (Result A EngineFault)) (i : ℕ) (parts : List A) (x : A) (d : Result A EngineFault) → i < length answers → slice_index_or answers i d ≡ Ok x → take i answers ≡ map Ok parts → take (suc i) answers ≡ map Ok (parts ++ x ∷ [])
given_more [] i parts x d below is given = absurd (omega (arith, below))
given_more (a ∷ answers) zero [] x d below is given = ap (λ b. b ∷ []) is
given_more (a ∷ answers) zero (y ∷ parts) x d below is given = absurd (cc)
given_more (a ∷ answers) (suc i) [] x d below is given = absurd (cc)
given_more (a ∷ answers) (suc i) (y ∷ parts) x d below is given =
    ap (λ b. b ∷ take (suc i) answers) (head_same given) ∙ ap (λ bs. Ok y ∷ bs) (given_more answers i parts x d (omega (arith, below)) is (tail_same given))

fault_there : {A : Type 0} (answers : List (Result A EngineFault)) (i : ℕ) (parts : List A) (why : EngineFault) (d : Result A EngineFault) → i < length answers → slice_index_or answers i d ≡ Err why → take i answers ≡ map Ok parts → IsFirstFault i why answers
fault_there [] i parts why d below is given = absurd (omega (arith, below))
fault_there (Ok x ∷ answers) zero parts why d below is given = absurd (cc)
fault_there (Err fault ∷ answers) zero parts why d below is given = let same : fault ≡ why = cc in same
fault_there (a ∷ answers) (suc i) [] why d below is given = absurd (cc)
fault_there (Ok x ∷ answers) (suc i) (y ∷ parts) why d below is given =
    fault_there answers i parts why d (omega (arith, below)) is (tail_same given)
fault_there (Err fault ∷ answers) (suc i) (y ∷ parts) why d below is given =
    let clash : Err fault ≡ Ok y = head_same given in absurd (cc)

length_read : {X V : Type 0} (g : X → V) (xs : List X) → length (map g xs) ≡ length xs
length_read g [] = refl
length_read g (x ∷ xs) = ap suc (length_read g xs)

pub taking_more : {X U A : Type 0} (f : X → U) (g : X → Result A EngineFault) (olds nows : List X) (at : ℕ) (parts : List A) (s t : X) (x : A) → Taking f g olds nows at parts → at < length nows → s ≡ slice_index_or nows at s → f t ≡ f s → g s ≡ Ok x
    → Taking f g olds (set nows at t) (at + 1) (parts ++ x ∷ [])
taking_more f g olds nows at parts s t x h below is same answered =
    let next : suc at ≡ at + 1 = omega arith in
    let within : at < length (map g olds) = omega (arith, below, h.many, length_read g olds) in
    let put : Taking f g olds (set nows at t) (suc at) (parts ++ x ∷ []) = record {
      each = put_at f g at 0 at olds nows s t (omega arith) below is same h.each;
      many = length-set nows at t ∙ h.many;
      given = given_more (map g olds) at parts x (g s) within (sym (there f g at 0 at olds nows s (omega arith) below is h.each) ∙ answered) h.given;
    } in
    subst (λ n. Taking f g olds (set nows at t) n (parts ++ x ∷ [])) next put

pub taking_fault : {X U A : Type 0} (f : X → U) (g : X → Result A EngineFault) (olds nows : List X) (at : ℕ) (parts : List A) (s : X) (why : EngineFault) → Taking f g olds nows at parts → at < length nows → s ≡ slice_index_or nows at s → g s ≡ Err why
    → IsFirstFault at why (map g olds)
taking_fault f g olds nows at parts s why h below is answered =
    let within : at < length (map g olds) = omega (arith, below, h.many, length_read g olds) in
    fault_there (map g olds) at parts why (g s) within (sym (there f g at 0 at olds nows s (omega arith) below is h.each) ∙ answered) h.given

-- ---- what f reads stays

reads_same : {X U V : Type 0} (f : X → U) (g : X → V) (at p : ℕ) (olds nows : List X) → AtEach (IsTakenTo f g at) p olds nows → map f nows ≡ map f olds
reads_same f g at p [] [] all = refl
reads_same f g at p [] (n ∷ nows) all = absurd all
reads_same f g at p (o ∷ olds) [] all = absurd all
reads_same f g at p (o ∷ olds) (n ∷ nows) all = ap (λ u. u ∷ map f nows) all.0.0 ∙ ap (λ us. f o ∷ us) (reads_same f g at (suc p) olds nows all.1)

pub taking_reads : {X U A : Type 0} (f : X → U) (g : X → Result A EngineFault) (olds nows : List X) (at : ℕ) (parts : List A) → Taking f g olds nows at parts → map f nows ≡ map f olds
taking_reads f g olds nows at parts h = reads_same f g at 0 olds nows h.each

-- also where one more was put there that reads the same
pub taking_put : {X U A : Type 0} (f : X → U) (g : X → Result A EngineFault) (olds nows : List X) (at : ℕ) (parts : List A) (s t : X) → Taking f g olds nows at parts → at < length nows → s ≡ slice_index_or nows at s → f t ≡ f s → map f (set nows at t) ≡ map f olds
taking_put f g olds nows at parts s t h below is same = reads_same f g (suc at) 0 olds (set nows at t) (put_at f g at 0 at olds nows s t (omega arith) below is same h.each)

taken_all : {X : Type 0} (xs : List X) (n : ℕ) → length xs ≤ n → take n xs ≡ xs
taken_all [] zero le = refl
taken_all [] (suc n) le = refl
taken_all (x ∷ xs) zero le = absurd (omega (arith, le))
taken_all (x ∷ xs) (suc n) le = ap (λ ys. x ∷ ys) (taken_all xs n (omega (arith, le)))

pub taking_all : {X U A : Type 0} (f : X → U) (g : X → Result A EngineFault) (olds nows : List X) (at : ℕ) (parts : List A) → Taking f g olds nows at parts → length nows ≤ at → map g olds ≡ map Ok parts
taking_all f g olds nows at parts h ends =
    let all : length (map g olds) ≤ at = omega (arith, ends, h.many, length_read g olds) in sym (taken_all (map g olds) at all) ∙ h.given
