-- Laws of a list, place by place, and beside another one.
use Rattle.std.proofs.Common.{◌≡◌, ℕ, zero, suc, ◌+◌, ◌<◌, List, [], ◌∷◌, ◌++◌, map, length, append_assoc, length-append, arith, refl, ap, sym, subst, inl, inr}
use Rattle.std.specs.Prelude.{All, Some, slice_get, zip}
use Rattle.std.proofs.lemmas.List.Elements.{All-cons, All-head, All-nil, All-tail}
use Rattle.tc_keeper.specs.Places.{AtEach, EachFrom, SomeFrom}

-- ---- one list

pub each-so : {X : Type 0} (P Q : ℕ → X → Type 0) (n : ℕ) (xs : List X) → ((i : ℕ) (x : X) → P i x → Q i x) → EachFrom P n xs → EachFrom Q n xs
each-so P Q n [] step each = tt
each-so P Q n (x ∷ xs) step each = (step n x each.0, each-so P Q (suc n) xs step each.1)

pub each-map : {X Y : Type 0} (f : X → Y) (P : ℕ → Y → Type 0) (n : ℕ) (xs : List X) → EachFrom (λ i x. P i (f x)) n xs → EachFrom P n (map f xs)
each-map f P n [] each = tt
each-map f P n (x ∷ xs) each = (each.0, each-map f P (suc n) xs each.1)

pub each-append : {X : Type 0} (P : ℕ → X → Type 0) (n : ℕ) (xs ys : List X) → EachFrom P n xs → EachFrom P (n + length xs) ys → EachFrom P n (xs ++ ys)
each-append P n [] ys first more = let same : n + 0 ≡ n = omega arith in subst (λ m. EachFrom P m ys) same more
each-append P n (x ∷ xs) ys first more =
    let same : n + suc (length xs) ≡ suc n + length xs = omega arith in
    (first.0, each-append P (suc n) xs ys first.1 (subst (λ m. EachFrom P m ys) same more))

-- what stands at a place
pub each-get : {X : Type 0} (P : ℕ → X → Type 0) (n i : ℕ) (xs : List X) (x : X) → EachFrom P n xs → slice_get xs i ≡ Some x → P (n + i) x
each-get P n i [] x each is = absurd (cc)
each-get P n zero (y ∷ ys) x each is = let same : n + 0 ≡ n = omega arith in let here : y ≡ x = cc in subst (λ m. P m x) (sym same) (subst (P n) here each.0)
each-get P n (suc i) (y ∷ ys) x each is = let same : n + suc i ≡ suc n + i = omega arith in subst (λ m. P m x) (sym same) (each-get P (suc n) i ys x each.1 is)

pub each-all : {X : Type 0} (P : X → Type 0) (n : ℕ) (xs : List X) → EachFrom (λ i x. P x) n xs → All P xs
each-all P n [] each = All-nil P
each-all P n (x ∷ xs) each = All-cons P x xs each.0 (each-all P (suc n) xs each.1)

pub some-so : {X : Type 0} (P Q : ℕ → X → Type 0) (n : ℕ) (xs : List X) → ((i : ℕ) (x : X) → P i x → Q i x) → SomeFrom P n xs → SomeFrom Q n xs
some-so P Q n [] step some = absurd some
some-so P Q n (x ∷ xs) step (inl here) = inl (step n x here)
some-so P Q n (x ∷ xs) step (inr more) = inr (some-so P Q (suc n) xs step more)

pub some-map : {X Y : Type 0} (f : X → Y) (P : ℕ → Y → Type 0) (n : ℕ) (xs : List X) → SomeFrom (λ i x. P i (f x)) n xs → SomeFrom P n (map f xs)
some-map f P n [] some = absurd some
some-map f P n (x ∷ xs) (inl here) = inl here
some-map f P n (x ∷ xs) (inr more) = inr (some-map f P (suc n) xs more)

pub some-append : {X : Type 0} (P : ℕ → X → Type 0) (n : ℕ) (xs ys : List X) → SomeFrom P (n + length xs) ys → SomeFrom P n (xs ++ ys)
some-append P n [] ys some = let same : n + 0 ≡ n = omega arith in subst (λ m. SomeFrom P m ys) same some
some-append P n (x ∷ xs) ys some =
    let same : n + suc (length xs) ≡ suc n + length xs = omega arith in inr (some-append P (suc n) xs ys (subst (λ m. SomeFrom P m ys) same some))

-- ---- two lists

-- what holds of each of the first, and of both, gives what holds of each of the second
pub each-beside : {X Y : Type 0} (P : ℕ → X → Type 0) (R : ℕ → X → Y → Type 0) (Q : ℕ → Y → Type 0) (n : ℕ) (xs : List X) (ys : List Y)
    → ((i : ℕ) (x : X) (y : Y) → P i x → R i x y → Q i y) → EachFrom P n xs → AtEach R n xs ys → EachFrom Q n ys
each-beside P R Q n [] [] step each both = tt
each-beside P R Q n [] (y ∷ ys) step each both = absurd both
each-beside P R Q n (x ∷ xs) [] step each both = absurd both
each-beside P R Q n (x ∷ xs) (y ∷ ys) step each both = (step n x y each.0 both.0, each-beside P R Q (suc n) xs ys step each.1 both.1)

pub some-beside : {X Y : Type 0} (P : ℕ → X → Type 0) (R : ℕ → X → Y → Type 0) (Q : ℕ → Y → Type 0) (n : ℕ) (xs : List X) (ys : List Y)
    → ((i : ℕ) (x : X) (y : Y) → P i x → R i x y → Q i y) → SomeFrom P n xs → AtEach R n xs ys → SomeFrom Q n ys
some-beside P R Q n [] [] step some both = absurd some
some-beside P R Q n [] (y ∷ ys) step some both = absurd both
some-beside P R Q n (x ∷ xs) [] step some both = absurd both
some-beside P R Q n (x ∷ xs) (y ∷ ys) step (inl here) both = inl (step n x y here both.0)
some-beside P R Q n (x ∷ xs) (y ∷ ys) step (inr more) both = inr (some-beside P R Q (suc n) xs ys step more both.1)

-- what holds of both gives what holds of each of the second
pub each-right : {X Y : Type 0} (R : ℕ → X → Y → Type 0) (Q : ℕ → Y → Type 0) (n : ℕ) (xs : List X) (ys : List Y) → ((i : ℕ) (x : X) (y : Y) → R i x y → Q i y) → AtEach R n xs ys → EachFrom Q n ys
each-right R Q n [] [] step both = tt
each-right R Q n [] (y ∷ ys) step both = absurd both
each-right R Q n (x ∷ xs) [] step both = absurd both
each-right R Q n (x ∷ xs) (y ∷ ys) step both = (step n x y both.0, each-right R Q (suc n) xs ys step both.1)

-- and so of all
pub right_all : {X Y : Type 0} (R : ℕ → X → Y → Type 0) (P : Y → Type 0) (p : ℕ) (xs : List X) (ys : List Y) → ((i : ℕ) (x : X) (y : Y) → R i x y → P y) → AtEach R p xs ys → All P ys
right_all R P p [] [] so all = All-nil P
right_all R P p [] (y ∷ ys) so all = absurd all
right_all R P p (x ∷ xs) [] so all = absurd all
right_all R P p (x ∷ xs) (y ∷ ys) so all = All-cons P y ys (so p x y all.0) (right_all R P (suc p) xs ys so all.1)

-- what holds of all of the first
pub carried_all : {X Y : Type 0} (R : ℕ → X → Y → Type 0) (P : X → Type 0) (Q : Y → Type 0) (p : ℕ) (xs : List X) (ys : List Y) → ((i : ℕ) (x : X) (y : Y) → R i x y → P x → Q y) → AtEach R p xs ys → All P xs → All Q ys
carried_all R P Q p [] [] so each all = All-nil Q
carried_all R P Q p [] (y ∷ ys) so each all = absurd each
carried_all R P Q p (x ∷ xs) [] so each all = absurd each
carried_all R P Q p (x ∷ xs) (y ∷ ys) so each all = All-cons Q y ys (so p x y each.0 (All-head P x xs all)) (carried_all R P Q (suc p) xs ys so each.1 (All-tail P x xs all))

-- of whatever place, where it is the same at each
pub at_each-shifted : {X Y : Type 0} (R : X → Y → Type 0) (n m : ℕ) (xs : List X) (ys : List Y) → AtEach (λ i x y. R x y) n xs ys → AtEach (λ i x y. R x y) m xs ys
at_each-shifted R n m [] [] both = tt
at_each-shifted R n m [] (y ∷ ys) both = absurd both
at_each-shifted R n m (x ∷ xs) [] both = absurd both
at_each-shifted R n m (x ∷ xs) (y ∷ ys) both = (both.0, at_each-shifted R (suc n) (suc m) xs ys both.1)

-- the element behind a front
pub behind_front : {Y : Type 0} (front : List Y) (y : Y) (ys : List Y) (i : ℕ) → i ≡ length front → slice_get (front ++ y ∷ ys) i ≡ Some y
behind_front [] y ys i same = subst (λ i. slice_get (y ∷ ys) i ≡ Some y) (sym same) refl
behind_front (z ∷ front) y ys i same = subst (λ i. slice_get (z ∷ (front ++ y ∷ ys)) i ≡ Some y) (sym same) (behind_front front y ys (length front) refl)

pushed_long : {Y : Type 0} (front : List Y) (y : Y) → length (front ++ y ∷ []) ≡ suc (length front)
pushed_long front y = omega (arith, length-append front (y ∷ []))

-- the elements of the second list are those at their places
pub at_each-placed : {X Y : Type 0} (R : ℕ → X → Y → Type 0) (front : List Y) (xs : List X) (ys : List Y) → AtEach R (length front) xs ys
    → AtEach (λ i x y. R i x y × (slice_get (front ++ ys) i ≡ Some y)) (length front) xs ys
at_each-placed R front [] [] both = tt
at_each-placed R front [] (y ∷ ys) both = absurd both
at_each-placed R front (x ∷ xs) [] both = absurd both
at_each-placed R front (x ∷ xs) (y ∷ ys) both =
    let longer = pushed_long front y in
    let more = at_each-placed R (front ++ y ∷ []) xs ys (subst (λ n. AtEach R n xs ys) (sym longer) both.1) in
    let whole = append_assoc front (y ∷ []) ys in (
      (both.0, behind_front front y ys (length front) refl),
      subst (λ n. AtEach (λ i u v. R i u v × (slice_get (front ++ y ∷ ys) i ≡ Some v)) n xs ys) longer
          (subst (λ zs. AtEach (λ i u v. R i u v × (slice_get zs i ≡ Some v)) (length (front ++ y ∷ [])) xs ys) whole more),
    )

-- by what stands at the same place of both
pub at_each-from : {X Y : Type 0} (R : ℕ → X → Y → Type 0) (n : ℕ) (xs : List X) (ys : List Y) → length xs ≡ length ys
    → ((p : ℕ) (x : X) (y : Y) → slice_get xs p ≡ Some x → slice_get ys p ≡ Some y → R (n + p) x y) → AtEach R n xs ys
at_each-from R n [] [] same step = tt
at_each-from R n [] (y ∷ ys) same step = absurd (cc)
at_each-from R n (x ∷ xs) [] same step = absurd (cc)
at_each-from R n (x ∷ xs) (y ∷ ys) same step = (
  (let here : n + 0 ≡ n = omega arith in subst (λ m. R m x y) here (step 0 x y refl refl)),
  at_each-from R (suc n) xs ys (cc) (λ p u v is_x is_y. let there : n + suc p ≡ suc n + p = omega arith in subst (λ m. R m u v) there (step (suc p) u v is_x is_y)),
)

-- from one list to another, and on to a third
pub at_each-then : {X Y Z : Type 0} (A : ℕ → X → Y → Type 0) (B : ℕ → Y → Z → Type 0) (C : ℕ → X → Z → Type 0) (n : ℕ) (xs : List X) (ys : List Y) (zs : List Z)
    → ((i : ℕ) (x : X) (y : Y) (z : Z) → A i x y → B i y z → C i x z) → AtEach A n xs ys → AtEach B n ys zs → AtEach C n xs zs
at_each-then A B C n [] [] [] step a b = tt
at_each-then A B C n [] [] (z ∷ zs) step a b = absurd b
at_each-then A B C n [] (y ∷ ys) zs step a b = absurd a
at_each-then A B C n (x ∷ xs) [] zs step a b = absurd a
at_each-then A B C n (x ∷ xs) (y ∷ ys) [] step a b = absurd b
at_each-then A B C n (x ∷ xs) (y ∷ ys) (z ∷ zs) step a b = (step n x y z a.0 b.0, at_each-then A B C (suc n) xs ys zs step a.1 b.1)

-- at a place of both
pub at_each-get : {X Y : Type 0} (R : ℕ → X → Y → Type 0) (n p : ℕ) (xs : List X) (ys : List Y) (x : X) → AtEach R n xs ys → slice_get xs p ≡ Some x → (y : Y) × (slice_get ys p ≡ Some y) × R (n + p) x y
at_each-get R n p [] ys x both is = absurd (cc)
at_each-get R n p (z ∷ xs) [] x both is = absurd both
at_each-get R n zero (z ∷ xs) (y ∷ ys) x both is = let same : n + 0 ≡ n = omega arith in let here : z ≡ x = cc in (y, refl, subst (λ m. R m x y) (sym same) (subst (λ u. R n u y) here both.0))
at_each-get R n (suc p) (z ∷ xs) (y ∷ ys) x both is =
    let more = at_each-get R (suc n) p xs ys x both.1 is in
    let same : n + suc p ≡ suc n + p = omega arith in
    (more.0, more.1, subst (λ m. R m x more.0) (sym same) more.2)

-- each place is below the end
pub each-below : {X : Type 0} (P : ℕ → X → Type 0) (n : ℕ) (xs : List X) → EachFrom P n xs → EachFrom (λ i x. (i < n + length xs) × P i x) n xs
each-below P n [] each = tt
each-below P n (x ∷ xs) each =
    let longer : suc n + length xs ≡ n + length (x ∷ xs) = omega arith in
    ((omega arith, each.0), subst (λ m. EachFrom (λ i y. (i < m) × P i y) (suc n) xs) longer (each-below P (suc n) xs each.1))

-- a place that is not past the end has an element
pub there : {X : Type 0} (xs : List X) (p : ℕ) → p < length xs → (x : X) × (slice_get xs p ≡ Some x)
there [] p below = absurd (omega (arith, below))
there (x ∷ xs) zero below = (x, refl)
there (x ∷ xs) (suc p) below = there xs p (omega (arith, below))

-- two facts of both
pub at_each-both : {X Y : Type 0} (A B C : ℕ → X → Y → Type 0) (n : ℕ) (xs : List X) (ys : List Y) → ((i : ℕ) (x : X) (y : Y) → A i x y → B i x y → C i x y) → AtEach A n xs ys → AtEach B n xs ys → AtEach C n xs ys
at_each-both A B C n [] [] step a b = tt
at_each-both A B C n [] (y ∷ ys) step a b = absurd a
at_each-both A B C n (x ∷ xs) [] step a b = absurd a
at_each-both A B C n (x ∷ xs) (y ∷ ys) step a b = (step n x y a.0 b.0, at_each-both A B C (suc n) xs ys step a.1 b.1)

-- from the first place on
pub each-at : {X : Type 0} (P : ℕ → X → Type 0) (p : ℕ) (xs : List X) (x : X) → EachFrom P 0 xs → slice_get xs p ≡ Some x → P p x
each-at P p xs x each is = let same : 0 + p ≡ p = omega arith in subst (λ m. P m x) same (each-get P 0 p xs x each is)

pub at_each-at : {X Y : Type 0} (R : ℕ → X → Y → Type 0) (p : ℕ) (xs : List X) (ys : List Y) (x : X) → AtEach R 0 xs ys → slice_get xs p ≡ Some x → (y : Y) × (slice_get ys p ≡ Some y) × R p x y
at_each-at R p xs ys x both is =
    let at = at_each-get R 0 p xs ys x both is in
    let same : 0 + p ≡ p = omega arith in
    (at.0, at.1, subst (λ m. R m x at.0) same at.2)

-- places of lists side by side
pub zip_places : {X Y : Type 0} (xs : List X) (ys : List Y) (p : ℕ) (z : X × Y) → slice_get (zip xs ys) p ≡ Some z → (slice_get xs p ≡ Some z.0) × (slice_get ys p ≡ Some z.1)
zip_places [] ys p z is = absurd (cc)
zip_places (x ∷ xs) [] p z is = absurd (cc)
zip_places (x ∷ xs) (y ∷ ys) zero z is = let same : (x, y) ≡ z = cc in (ap (λ (q : _ × _). Some q.0) same, ap (λ (q : _ × _). Some q.1) same)
zip_places (x ∷ xs) (y ∷ ys) (suc p) z is = zip_places xs ys p z is
