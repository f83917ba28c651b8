-- Laws of two lists, place by place.
use Rattle.std.proofs.Common.{◌≡◌, ℕ, zero, suc, ◌+◌, ◌<◌, List, [], ◌∷◌, ◌++◌, drop, take, map, length, arith, refl, ap, subst}
use Rattle.std.specs.List.{AllByRecursion}
use Rattle.std.specs.Prelude.{slice_index_or, zip, All}
use Rattle.std.specs.Vec.{with_items}
use Rattle.std.specs.declared.alloc.Global.{Global}
use Rattle.std.specs.declared.vec.Vec.{Vec}
use Rattle.std.proofs.lemmas.List.Elements.{All-nil, All-cons, All-head, All-tail}
use Rattle.tc_keeper.specs.Places.{AtEach}

-- ---- lists that are the same

pub head_same : {X : Type 0} {x y : X} {xs ys : List X} → x ∷ xs ≡ y ∷ ys → x ≡ y
head_same {x = x} same = ap (λ zs. slice_index_or zs 0 x) same

pub tail_same : {X : Type 0} {x y : X} {xs ys : List X} → x ∷ xs ≡ y ∷ ys → xs ≡ ys
tail_same same = ap (λ zs. drop 1 zs) same

-- ---- place by place

pub at_each-so : {X Y : Type 0} (R Q : ℕ → X → Y → Type 0) (p : ℕ) (xs : List X) (ys : List Y) → ((i : ℕ) (x : X) (y : Y) → R i x y → Q i x y) → AtEach R p xs ys → AtEach Q p xs ys
at_each-so R Q p [] [] step all = tt
at_each-so R Q p [] (y ∷ ys) step all = absurd all
at_each-so R Q p (x ∷ xs) [] step all = absurd all
at_each-so R Q p (x ∷ xs) (y ∷ ys) step all = (step p x y all.0, at_each-so R Q (suc p) xs ys step all.1)

-- of what f and g read
pub at_each-read : {X Y U V : Type 0} (f : X → U) (g : Y → V) (R : ℕ → U → V → Type 0) (p : ℕ) (xs : List X) (ys : List Y) → AtEach (λ i x y. R i (f x) (g y)) p xs ys → AtEach R p (map f xs) (map g ys)
at_each-read f g R p [] [] all = tt
at_each-read f g R p [] (y ∷ ys) all = absurd all
at_each-read f g R p (x ∷ xs) [] all = absurd all
at_each-read f g R p (x ∷ xs) (y ∷ ys) all = (all.0, at_each-read f g R (suc p) xs ys all.1)

pub at_each-length : {X Y : Type 0} (R : ℕ → X → Y → Type 0) (p : ℕ) (xs : List X) (ys : List Y) → AtEach R p xs ys → length xs ≡ length ys
at_each-length R p [] [] all = refl
at_each-length R p [] (y ∷ ys) all = absurd all
at_each-length R p (x ∷ xs) [] all = absurd all
at_each-length R p (x ∷ xs) (y ∷ ys) all = ap suc (at_each-length R (suc p) xs ys all.1)

-- three lists, by what holds of the first and each of the others
pub at_each-join : {X Y Z : Type 0} (A : ℕ → X → Y → Type 0) (B : ℕ → X → Z → Type 0) (C : ℕ → Y → Z → Type 0) (p : ℕ) (xs : List X) (ys : List Y) (zs : List Z)
    → ((i : ℕ) (x : X) (y : Y) (z : Z) → A i x y → B i x z → C i y z) → AtEach A p xs ys → AtEach B p xs zs → AtEach C p ys zs
at_each-join A B C p [] [] [] step a b = tt
at_each-join A B C p [] [] (z ∷ zs) step a b = absurd b
at_each-join A B C p [] (y ∷ ys) zs step a b = absurd a
at_each-join A B C p (x ∷ xs) [] zs step a b = absurd a
at_each-join A B C p (x ∷ xs) (y ∷ ys) [] step a b = absurd b
at_each-join A B C p (x ∷ xs) (y ∷ ys) (z ∷ zs) step a b = (step p x y z a.0 b.0, at_each-join A B C (suc p) xs ys zs step a.1 b.1)

-- the other way round
pub at_each-turned : {X Y : Type 0} (R : ℕ → X → Y → Type 0) (p : ℕ) (xs : List X) (ys : List Y) → AtEach R p xs ys → AtEach (λ i y x. R i x y) p ys xs
at_each-turned R p [] [] all = tt
at_each-turned R p [] (y ∷ ys) all = absurd all
at_each-turned R p (x ∷ xs) [] all = absurd all
at_each-turned R p (x ∷ xs) (y ∷ ys) all = (all.0, at_each-turned R (suc p) xs ys all.1)

-- a list beside itself
pub at_each-same : {X : Type 0} (R : ℕ → X → X → Type 0) (p : ℕ) (xs : List X) → ((i : ℕ) (x : X) → R i x x) → AtEach R p xs xs
at_each-same R p [] each = tt
at_each-same R p (x ∷ xs) each = (each p x, at_each-same R (suc p) xs each)

-- of what g reads in the other list
pub at_each-reads : {X Y V : Type 0} (g : Y → V) (R : ℕ → X → V → Type 0) (p : ℕ) (xs : List X) (ys : List Y) → AtEach (λ i x y. R i x (g y)) p xs ys → AtEach R p xs (map g ys)
at_each-reads g R p [] [] all = tt
at_each-reads g R p [] (y ∷ ys) all = absurd all
at_each-reads g R p (x ∷ xs) [] all = absurd all
at_each-reads g R p (x ∷ xs) (y ∷ ys) all = (all.0, at_each-reads g R (suc p) xs ys all.1)

-- with what holds of each of the other list
pub at_each-with : {X Y : Type 0} (P : Y → Type 0) (R : ℕ → X → Y → Type 0) (p : ℕ) (xs : List X) (ys : List Y) → AllByRecursion P ys → AtEach R p xs ys → AtEach (λ i x y. P y × R i x y) p xs ys
at_each-with P R p [] [] each all = tt
at_each-with P R p [] (y ∷ ys) each all = absurd all
at_each-with P R p (x ∷ xs) [] each all = absurd all
at_each-with P R p (x ∷ xs) (y ∷ ys) each all = ((each.0, all.0), at_each-with P R (suc p) xs ys each.1 all.1)

-- with the bound of the place
pub at_each-below : {X Y : Type 0} (R : ℕ → X → Y → Type 0) (p n : ℕ) (xs : List X) (ys : List Y) → p + length xs ≡ n → AtEach R p xs ys → AtEach (λ i x y. (i < n) × R i x y) p xs ys
at_each-below R p n [] [] ends all = tt
at_each-below R p n [] (y ∷ ys) ends all = absurd all
at_each-below R p n (x ∷ xs) [] ends all = absurd all
at_each-below R p n (x ∷ xs) (y ∷ ys) ends all = ((omega (arith, ends), all.0), at_each-below R (suc p) n xs ys (omega (arith, ends)) all.1)

-- the pairs of two other lists
pub at_each-zip : {X Y Z : Type 0} (A : ℕ → X → Y → Type 0) (B : ℕ → X → Z → Type 0) (C : ℕ → Y → X × Z → Type 0) (p : ℕ) (xs : List X) (ys : List Y) (zs : List Z)
    → ((i : ℕ) (x : X) (y : Y) (z : Z) → A i x y → B i x z → C i y (x, z)) → AtEach A p xs ys → AtEach B p xs zs → AtEach C p ys (zip xs zs)
at_each-zip A B C p [] [] [] step a b = tt
at_each-zip A B C p [] [] (z ∷ zs) step a b = absurd b
at_each-zip A B C p [] (y ∷ ys) zs step a b = absurd a
at_each-zip A B C p (x ∷ xs) [] zs step a b = absurd a
at_each-zip A B C p (x ∷ xs) (y ∷ ys) [] step a b = absurd b
at_each-zip A B C p (x ∷ xs) (y ∷ ys) (z ∷ zs) step a b = (step p x y z a.0 b.0, at_each-zip A B C (suc p) xs ys zs step a.1 b.1)

-- by index
pub at_each-by : {X : Type 0} (R : ℕ → X → X → Type 0) (p : ℕ) (xs ys : List X) → length xs ≡ length ys → ((i : ℕ) (d : X) → i < length xs → R (p + i) (slice_index_or xs i d) (slice_index_or ys i d)) → AtEach R p xs ys
at_each-by R p [] [] same each = tt
at_each-by R p [] (y ∷ ys) same each = absurd (omega (arith, same))
at_each-by R p (x ∷ xs) [] same each = absurd (omega (arith, same))
at_each-by {X} R p (x ∷ xs) (y ∷ ys) same each =
    let first : R (p + 0) x y = each 0 x (omega arith) in
    let here : p + 0 ≡ p = omega arith in
    (subst (λ i. R i x y) here first, at_each-by R (suc p) xs ys (omega (arith, same)) rest)
  where
    rest : (i : ℕ) (d : X) → i < length xs → R (suc p + i) (slice_index_or xs i d) (slice_index_or ys i d)
    rest i d below =
        let next : R (p + suc i) (slice_index_or xs i d) (slice_index_or ys i d) = each (suc i) d (omega (arith, below)) in
        let there : p + suc i ≡ suc p + i = omega arith in
        subst (λ j. R j (slice_index_or xs i d) (slice_index_or ys i d)) there next

-- what is read at a place
pub read_at : {X U : Type 0} (f : X → U) (xs : List X) (i : ℕ) (d : X) (e : U) → i < length xs → slice_index_or (map f xs) i e ≡ f (slice_index_or xs i d)
read_at f [] i d e below = absurd (omega (arith, below))
read_at f (x ∷ xs) zero d e below = refl
read_at f (x ∷ xs) (suc i) d e below = read_at f xs i d e (omega (arith, below))

pub all_second : {X Y : Type 0} (P : Y → Type 0) (p : ℕ) (xs : List X) (ys : List Y) → AtEach (λ i x y. P y) p xs ys → All P ys
all_second P p [] [] all = All-nil P
all_second P p [] (y ∷ ys) all = absurd all
all_second P p (x ∷ xs) [] all = absurd all
all_second P p (x ∷ xs) (y ∷ ys) all = All-cons P y ys all.0 (all_second P (suc p) xs ys all.1)

pub all_read : {X U : Type 0} (f : X → U) (P : U → Type 0) (xs : List X) → All P (map f xs) → All (λ x. P (f x)) xs
all_read f P [] all = All-nil (λ x. P (f x))
all_read f P (x ∷ xs) all = All-cons (λ x. P (f x)) x xs (All-head P (f x) (map f xs) all) (all_read f P xs (All-tail P (f x) (map f xs) all))

-- a vector whose items were written over by as many has these
take_front : {X : Type 0} (n : ℕ) (ws rest : List X) → length ws ≡ n → take n (ws ++ rest) ≡ ws
take_front zero [] rest many = refl
take_front (suc n) [] rest many = absurd (omega (arith, many))
take_front zero (w ∷ ws) rest many = absurd (omega (arith, many))
take_front (suc n) (w ∷ ws) rest many = ap (λ xs. w ∷ xs) (take_front n ws rest (omega (arith, many)))

pub refilled : {X : Type 0} (room : Vec X Global) (ws : List X) → length ws ≡ room.len → (with_items room ws).items ≡ ws
refilled room ws many = take_front room.len ws (drop (length ws) room.items) many
