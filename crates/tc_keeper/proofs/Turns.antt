-- The elements of a list are changed one after the other, each by its place.
use Rattle.std.proofs.Common.{◌≡◌, ◌∙◌, ◌≤◌, ◌<◌, ◌+◌, ℕ, zero, suc, List, [], ◌∷◌, ◌++◌, All, length, set, arith, refl, ap, sym, subst, inl, inr, ◌⊎◌}
use Rattle.std.specs.Prelude.{slice_get, slice_index_or, Some, zip}
use Rattle.std.proofs.lemmas.List.{length-set}
use Rattle.std.proofs.lemmas.List.Elements.{All-head, All-tail}
use Rattle.tc_keeper.specs.Places.{AtEach, IsAt}
use Rattle.tc_keeper.proofs.PlaceLaws.{at_each-length, at_each-same, at_each-so}
use Rattle.tc_keeper.proofs.EachLaws.{at_each-at, at_each-from, zip_places}

-- ---- what stands at a place

pub is_at-get : {X : Type 0} (P : X → Type 0) (p : ℕ) (xs : List X) → IsAt p xs P → (x : X) × (slice_get xs p ≡ Some x) × P x
is_at-get P p [] at = absurd at
is_at-get P zero (x ∷ xs) at = (x, refl, at)
is_at-get P (suc p) (x ∷ xs) at = is_at-get P p xs at

pub is_at-there : {X : Type 0} (P : X → Type 0) (p : ℕ) (xs : List X) (x : X) → IsAt p xs P → slice_get xs p ≡ Some x → P x
is_at-there P p xs x at is = let one = is_at-get P p xs at in let same : one.0 ≡ x = let first = one.1 in cc in subst P same one.2

pub is_at-so : {X : Type 0} (P Q : X → Type 0) (p : ℕ) (xs : List X) → ((x : X) → P x → Q x) → IsAt p xs P → IsAt p xs Q
is_at-so P Q p [] so at = at
is_at-so P Q zero (x ∷ xs) so at = so x at
is_at-so P Q (suc p) (x ∷ xs) so at = is_at-so P Q p xs so at

pub get-is_at : {X : Type 0} (P : X → Type 0) (p : ℕ) (xs : List X) (x : X) → p < length xs → x ≡ slice_index_or xs p x → P x → IsAt p xs P
get-is_at P p [] x below is holds = absurd (omega (arith, below))
get-is_at P zero (y ∷ xs) x below is holds = subst P is holds
get-is_at P (suc p) (y ∷ xs) x below is holds = get-is_at P p xs x (omega (arith, below)) is holds

-- beside a third list
pub at_zip : {X Y Z : Type 0} (Q : X → Z → Y → Type 0) (xs : List X) (zs : List Z) (ys : List Y) → length (zip xs zs) ≡ length ys → AtEach (λ p x y. IsAt p zs (λ z. Q x z y)) 0 xs ys → AtEach (λ p (both : X × Z) y. Q both.0 both.1 y) 0 (zip xs zs) ys
at_zip Q xs zs ys many each =
    at_each-from (λ p (both : _ × _) y. Q both.0 both.1 y) 0 (zip xs zs) ys many (λ p both y is_both is_y.
    let places = zip_places xs zs p both is_both in
    let at = at_each-at (λ p x y. IsAt p zs (λ z. Q x z y)) p xs ys both.0 each places.0 in
    let same : at.0 ≡ y = let first = at.1 in cc in
    subst (λ y. Q both.0 both.1 y) same (is_at-there (λ z. Q both.0 z at.0) p zs both.1 at.2 places.1))

-- ---- one after the other

-- those before a place are done, and the others are as they were
abbrev pub IsTurn : {E : Type 0} → (ℕ → E → E → Type 0) → ℕ → ℕ → E → E → Type 0
IsTurn R at p old now = (p < at → R p old now) × (at ≤ p → now ≡ old)

pub record InTurn {E : Type 0} (R : ℕ → E → E → Type 0) (olds nows : List E) (at : ℕ) : Type 0 where
  pub each : AtEach (IsTurn R at) 0 olds nows
  pub many : length nows ≡ length olds

pub turns_none : {E : Type 0} (R : ℕ → E → E → Type 0) (olds : List E) → InTurn R olds olds 0
turns_none R olds = record { each = at_each-same (IsTurn R 0) 0 olds (λ p x. (λ less. absurd (omega (arith, less)), λ le. refl)); many = refl }

behind_turn : {E : Type 0} (R : ℕ → E → E → Type 0) (at p : ℕ) (olds nows : List E) → at < p → AtEach (IsTurn R at) p olds nows → AtEach (IsTurn R (suc at)) p olds nows
behind_turn R at p [] [] less all = tt
behind_turn R at p [] (n ∷ nows) less all = absurd all
behind_turn R at p (o ∷ olds) [] less all = absurd all
behind_turn R at p (o ∷ olds) (n ∷ nows) less all = ((λ before. absurd (omega (arith, less, before)), λ le. all.0.1 (omega (arith, le))), behind_turn R at (suc p) olds nows (omega (arith, less)) all.1)

put_turn : {E : Type 0} (R : ℕ → E → E → Type 0) (at p k : ℕ) (olds nows : List E) (s t : E) → at ≡ p + k → k < length nows → s ≡ slice_index_or nows k s → R at s t → AtEach (IsTurn R at) p olds nows → AtEach (IsTurn R (suc at)) p olds (set nows k t)
put_turn R at p k [] [] s t here below is done all = absurd (omega (arith, below))
put_turn R at p k [] (n ∷ nows) s t here below is done all = absurd all
put_turn R at p k (o ∷ olds) [] s t here below is done all = absurd all
put_turn R at p zero (o ∷ olds) (n ∷ nows) s t here below is done all =
    let same : s ≡ o = is ∙ all.0.1 (omega (arith, here)) in
    let place : at ≡ p = omega (arith, here) in
    ((λ before. subst (λ q. R q o t) place (subst (λ e. R at e t) same done), λ le. absurd (omega (arith, here, le))), behind_turn R at (suc p) olds nows (omega (arith, here)) all.1)
put_turn R at p (suc k) (o ∷ olds) (n ∷ nows) s t here below is done all =
    ((λ before. all.0.0 (omega (arith, here)), λ le. absurd (omega (arith, here, le))), put_turn R at (suc p) k olds nows s t (omega (arith, here)) (omega (arith, below)) is done all.1)

pub turns_more : {E : Type 0} (R : ℕ → E → E → Type 0) (olds nows : List E) (at : ℕ) (s t : E) → InTurn R olds nows at → at < length nows → s ≡ slice_index_or nows at s → R at s t → InTurn R olds (set nows at t) (at + 1)
turns_more R olds nows at s t h below is done =
    let next : suc at ≡ at + 1 = omega arith in
    subst (InTurn R olds (set nows at t)) next (record { each = put_turn R at 0 at olds nows s t (omega arith) below is done h.each; many = length-set nows at t ∙ h.many })

below_or : (a b : ℕ) → (b < a) ⊎ (a ≤ b)
below_or zero b = inr (omega arith)
below_or (suc a) zero = inl (omega arith)
below_or (suc a) (suc b) = elim (below_or a b) [ inl less ↦ inl (omega (arith, less)) | inr more ↦ inr (omega (arith, more)) ]

all_turns : {E : Type 0} (R Q : ℕ → E → E → Type 0) (at p : ℕ) (olds nows : List E) → ((q : ℕ) (o n : E) → R q o n → Q q o n) → ((q : ℕ) (o : E) → Q q o o) → AtEach (IsTurn R at) p olds nows → AtEach Q p olds nows
all_turns R Q at p [] [] so same all = tt
all_turns R Q at p [] (n ∷ nows) so same all = absurd all
all_turns R Q at p (o ∷ olds) [] so same all = absurd all
all_turns R Q at p (o ∷ olds) (n ∷ nows) so same all = (
  elim (below_or at p) [ inl before ↦ so p o n (all.0.0 before) | inr behind ↦ subst (Q p o) (sym (all.0.1 behind)) (same p o) ],
  all_turns R Q at (suc p) olds nows so same all.1,
)

-- up to some place, where what stays as it is is well
pub turns_some : {E : Type 0} (R Q : ℕ → E → E → Type 0) (olds nows : List E) (at : ℕ) → ((q : ℕ) (o n : E) → R q o n → Q q o n) → ((q : ℕ) (o : E) → Q q o o) → InTurn R olds nows at → AtEach Q 0 olds nows
turns_some R Q olds nows at so same h = all_turns R Q at 0 olds nows so same h.each

done_turns : {E : Type 0} (R : ℕ → E → E → Type 0) (at p : ℕ) (olds nows : List E) → p + length nows ≤ at → AtEach (IsTurn R at) p olds nows → AtEach R p olds nows
done_turns R at p [] [] ends all = tt
done_turns R at p [] (n ∷ nows) ends all = absurd all
done_turns R at p (o ∷ olds) [] ends all = absurd all
done_turns R at p (o ∷ olds) (n ∷ nows) ends all = (all.0.0 (omega (arith, ends)), done_turns R at (suc p) olds nows (omega (arith, ends)) all.1)

pub turns_all : {E : Type 0} (R : ℕ → E → E → Type 0) (olds nows : List E) (at : ℕ) → InTurn R olds nows at → length nows ≤ at → AtEach R 0 olds nows
turns_all R olds nows at h ends = done_turns R at 0 olds nows (omega (arith, ends)) h.each

-- what follows of what was done
pub turns_so : {E : Type 0} (R Q : ℕ → E → E → Type 0) (olds nows : List E) (at : ℕ) → ((q : ℕ) (o n : E) → R q o n → Q q o n) → InTurn R olds nows at → InTurn Q olds nows at
turns_so R Q olds nows at so h = record { each = at_each-so (IsTurn R at) (IsTurn Q at) 0 olds nows (λ q o n turn. (λ before. so q o n (turn.0 before), turn.1)) h.each; many = h.many }

stay_turn : {E : Type 0} (R : ℕ → E → E → Type 0) (at p k : ℕ) (olds nows : List E) → at ≡ p + k → k < length nows → ((s : E) → R at s s) → AtEach (IsTurn R at) p olds nows → AtEach (IsTurn R (suc at)) p olds nows
stay_turn R at p k [] [] here below stays all = omega (arith, below)
stay_turn R at p k [] (n ∷ nows) here below stays all = absurd all
stay_turn R at p k (o ∷ olds) [] here below stays all = absurd all
stay_turn R at p zero (o ∷ olds) (n ∷ nows) here below stays all =
    let place : at ≡ p = omega (arith, here) in
    let same : n ≡ o = all.0.1 (omega (arith, here)) in
    ((λ before. subst (R p o) (sym same) (subst (λ q. R q o o) place (stays o)), λ le. absurd (omega (arith, here, le))), behind_turn R at (suc p) olds nows (omega (arith, here)) all.1)
stay_turn R at p (suc k) (o ∷ olds) (n ∷ nows) here below stays all =
    ((λ before. all.0.0 (omega (arith, here)), λ le. absurd (omega (arith, here, le))), stay_turn R at (suc p) k olds nows (omega (arith, here)) (omega (arith, below)) stays all.1)

-- the next one stays as it is
pub turns_stay : {E : Type 0} (R : ℕ → E → E → Type 0) (olds nows : List E) (at : ℕ) → InTurn R olds nows at → at < length nows → ((s : E) → R at s s) → InTurn R olds nows (at + 1)
turns_stay R olds nows at h below stays =
    let next : suc at ≡ at + 1 = omega arith in
    subst (InTurn R olds nows) next (record { each = stay_turn R at 0 at olds nows (omega arith) below stays h.each; many = h.many })

-- the next one was changed otherwise, and no more follow
pub turns_end : {E : Type 0} (R Q : ℕ → E → E → Type 0) (olds nows : List E) (at : ℕ) (s t : E) → ((q : ℕ) (o n : E) → R q o n → Q q o n) → ((q : ℕ) (o : E) → Q q o o) → InTurn R olds nows at → at < length nows → s ≡ slice_index_or nows at s → Q at s t → AtEach Q 0 olds (set nows at t)
turns_end R Q olds nows at s t so same h below is done =
    turns_some Q Q olds (set nows at t) (at + 1) (λ q o n is. is) same (turns_more Q olds nows at s t (turns_so R Q olds nows at so h) below is done)

-- ---- the next one, where each call changes one

next_turn : {E : Type 0} (R : ℕ → E → E → Type 0) (P : E → Type 0) (at p k : ℕ) (olds nows : List E) → at ≡ p + k → k < length nows → All P olds → AtEach (IsTurn R at) p olds nows → IsAt k nows P
next_turn R P at p k [] [] here below each all = absurd (omega (arith, below))
next_turn R P at p k [] (n ∷ nows) here below each all = absurd all
next_turn R P at p k (o ∷ olds) [] here below each all = absurd all
next_turn R P at p zero (o ∷ olds) (n ∷ nows) here below each all = subst P (sym (all.0.1 (omega (arith, here)))) (All-head P o olds each)
next_turn R P at p (suc k) (o ∷ olds) (n ∷ nows) here below each all = next_turn R P at (suc p) k olds nows (omega (arith, here)) (omega (arith, below)) (All-tail P o olds each) all.1

-- it is as it was at first
pub turns_next : {E : Type 0} (R : ℕ → E → E → Type 0) (P : E → Type 0) (olds nows : List E) (at : ℕ) → InTurn R olds nows at → at < length nows → All P olds → IsAt at nows P
turns_next R P olds nows at h below each = next_turn R P at 0 at olds nows (omega arith) below each h.each

was_turn : {E : Type 0} (R : ℕ → E → E → Type 0) (P : E → Type 0) (at p k : ℕ) (olds nows : List E) → at ≡ p + k → IsAt k nows P → AtEach (IsTurn R at) p olds nows → IsAt k olds P
was_turn R P at p k [] [] here is all = absurd is
was_turn R P at p k [] (n ∷ nows) here is all = absurd all
was_turn R P at p k (o ∷ olds) [] here is all = absurd all
was_turn R P at p zero (o ∷ olds) (n ∷ nows) here is all = subst P (all.0.1 (omega (arith, here))) is
was_turn R P at p (suc k) (o ∷ olds) (n ∷ nows) here is all = was_turn R P at (suc p) k olds nows (omega (arith, here)) is all.1

pub turns_was : {E : Type 0} (R : ℕ → E → E → Type 0) (P : E → Type 0) (olds nows : List E) (at : ℕ) → InTurn R olds nows at → IsAt at nows P → IsAt at olds P
turns_was R P olds nows at h is = was_turn R P at 0 at olds nows (omega arith) is h.each

-- the one at a place was changed so, and no other
abbrev pub ByOne : {E : Type 0} → (E → E) → ℕ → ℕ → E → E → Type 0
ByOne f at p old new = (p ≡ at → new ≡ f old) × ((p ≡ at → ⊥) → new ≡ old)

by_turn : {E : Type 0} (R : ℕ → E → E → Type 0) (f : E → E) (at p : ℕ) (olds nows news : List E) → ((o : E) → R at o (f o)) → AtEach (IsTurn R at) p olds nows → AtEach (ByOne f at) p nows news → AtEach (IsTurn R (suc at)) p olds news
by_turn R f at p [] [] [] done all by = tt
by_turn R f at p [] [] (m ∷ news) done all by = absurd by
by_turn R f at p [] (n ∷ nows) news done all by = absurd all
by_turn R f at p (o ∷ olds) [] news done all by = absurd all
by_turn R f at p (o ∷ olds) (n ∷ nows) [] done all by = absurd by
by_turn R f at p (o ∷ olds) (n ∷ nows) (m ∷ news) done all by = (
  (
    λ before. elim (below_or at p) [
      | inl less ↦ subst (R p o) (sym (by.0.1 (λ same. absurd (omega (arith, less, same))))) (all.0.0 less)
      | inr more ↦ let here : p ≡ at = omega (arith, before, more) in subst (R p o) (sym (by.0.0 here ∙ ap f (all.0.1 more))) (subst (λ q. R q o (f o)) (sym here) (done o))
    ],
    λ behind. by.0.1 (λ same. absurd (omega (arith, behind, same))) ∙ all.0.1 (omega (arith, behind)),
  ),
  by_turn R f at (suc p) olds nows news done all.1 by.1,
)

pub turns_by : {E : Type 0} (R : ℕ → E → E → Type 0) (f : E → E) (olds nows news : List E) (at : ℕ) → InTurn R olds nows at → ((o : E) → R at o (f o)) → AtEach (ByOne f at) 0 nows news → InTurn R olds news (at + 1)
turns_by R f olds nows news at h done by =
    let next : suc at ≡ at + 1 = omega arith in
    subst (InTurn R olds news) next (record { each = by_turn R f at 0 olds nows news done h.each by; many = sym (at_each-length (ByOne f at) 0 nows news by) ∙ h.many })

-- ---- one list is made beside another

-- of what stands at the same place of both something holds
abbrev pub Beside : {X Y : Type 0} → (ℕ → X → Y → Type 0) → List X → List Y → Type 0
Beside {X} {Y} R xs ys = (p : ℕ) (x : X) (y : Y) → slice_get xs p ≡ Some x → slice_get ys p ≡ Some y → R p x y

get_last : {Y : Type 0} (ys : List Y) (y z : Y) (p : ℕ) → slice_get (ys ++ y ∷ []) p ≡ Some z → (slice_get ys p ≡ Some z) ⊎ ((p ≡ length ys) × (y ≡ z))
get_last [] y z zero is = inr (refl, cc)
get_last [] y z (suc p) is = absurd (cc)
get_last (v ∷ ys) y z zero is = inl is
get_last (v ∷ ys) y z (suc p) is = elim (get_last ys y z p is) [ inl there ↦ inl there | inr last ↦ inr (ap suc last.0, last.1) ]

pub beside_more : {X Y : Type 0} (R : ℕ → X → Y → Type 0) (xs : List X) (ys : List Y) (y : Y) → ((x : X) → slice_get xs (length ys) ≡ Some x → R (length ys) x y) → Beside R xs ys → Beside R xs (ys ++ y ∷ [])
beside_more R xs ys y last all = λ p x z is_x is_z.
    elim (get_last ys y z p is_z) [
      | inl there ↦ all p x z is_x there
      | inr here ↦ subst (R p x) here.1 (subst (λ q. R q x y) (sym here.0) (last x (subst (λ q. slice_get xs q ≡ Some x) here.0 is_x)))
    ]

pub beside_all : {X Y : Type 0} (R : ℕ → X → Y → Type 0) (xs : List X) (ys : List Y) → length xs ≡ length ys → Beside R xs ys → AtEach R 0 xs ys
beside_all R xs ys many all = at_each-from R 0 xs ys many (λ p x y is_x is_y. let zeroth : p ≡ 0 + p = omega arith in subst (λ q. R q x y) zeroth (all p x y is_x is_y))

pub beside_none : {X Y : Type 0} (R : ℕ → X → Y → Type 0) (xs : List X) → Beside R xs []
beside_none R xs = λ p x y is_x is_y. absurd (cc)

-- what stands at a place, by its number and by a default
pub there_is : {X : Type 0} (xs : List X) (p : ℕ) (x : X) → p < length xs → x ≡ slice_index_or xs p x → slice_get xs p ≡ Some x
there_is [] p x below is = absurd (omega (arith, below))
there_is (y ∷ xs) zero x below is = ap Some (sym is)
there_is (y ∷ xs) (suc p) x below is = there_is xs p x (omega (arith, below)) is

pub all_there : {X : Type 0} (P : X → Type 0) (p : ℕ) (xs : List X) (x : X) → p < length xs → x ≡ slice_index_or xs p x → All P xs → P x
all_there P p [] x below is all = absurd (omega (arith, below))
all_there P zero (y ∷ xs) x below is all = subst P (sym is) (All-head P y xs all)
all_there P (suc p) (y ∷ xs) x below is all = all_there P p xs x (omega (arith, below)) is (All-tail P y xs all)

-- a place that is set to what it holds
pub set_same : {X : Type 0} (xs : List X) (p : ℕ) (x : X) → x ≡ slice_index_or xs p x → set xs p x ≡ xs
set_same [] p x is = refl
set_same (y ∷ xs) zero x is = ap (λ z. z ∷ xs) is
set_same (y ∷ xs) (suc p) x is = ap (λ zs. y ∷ zs) (set_same xs p x is)

-- and one that is not set
pub set_other : {X : Type 0} (xs : List X) (k p : ℕ) (x d : X) → k < p → slice_index_or (set xs k x) p d ≡ slice_index_or xs p d
set_other [] k p x d less = refl
set_other (y ∷ xs) zero zero x d less = absurd (omega (arith, less))
set_other (y ∷ xs) zero (suc p) x d less = refl
set_other (y ∷ xs) (suc k) zero x d less = absurd (omega (arith, less))
set_other (y ∷ xs) (suc k) (suc p) x d less = set_other xs k p x d (omega (arith, less))
