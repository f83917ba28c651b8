-- Elements of a list that are looked at, or changed one after the other.
use Rattle.std.proofs.Common.{◌≡◌, ◌∙◌, ◌+◌, ℕ, zero, suc, List, [], ◌∷◌, ◌++◌, Some, length, map, take, drop, set, slice_get, refl, sym, ap, subst, arith}
use Rattle.std.specs.Prelude.{All}
use Rattle.std.proofs.lemmas.List.Elements.{All-head, All-tail}
use Rattle.std.proofs.lemmas.Option.{same_Some}

pub all_at : {X Y : Type 0} (P : Y → Type 0) (f : X → Y) (xs : List X) (n : ℕ) (x : X) → All P (map f xs) → slice_get xs n ≡ Some x → P (f x)
all_at P f [] n x all here = absurd (cc)
all_at P f (y ∷ xs) zero x all here = subst (λ z. P (f z)) (same_Some y x here) (All-head P (f y) (map f xs) all)
all_at P f (y ∷ xs) (suc n) x all here = all_at P f xs n x (All-tail P (f y) (map f xs) all) here

-- one more element is changed
pub map_step : {X : Type 0} (f : X → X) (xs : List X) (n : ℕ) (x : X) → slice_get (map f (take n xs) ++ drop n xs) n ≡ Some x → set (map f (take n xs) ++ drop n xs) n (f x) ≡ map f (take (n + 1) xs) ++ drop (n + 1) xs
map_step f [] zero x here = absurd (cc)
map_step f [] (suc n) x here = absurd (cc)
map_step f (y ∷ xs) zero x here = ap (λ z. f z ∷ xs) (sym (same_Some y x here))
map_step f (y ∷ xs) (suc n) x here =
    let further : suc (n + 1) ≡ suc n + 1 = omega arith in
    ap (λ rest. f y ∷ rest) (map_step f xs n x here) ∙ ap (λ m. map f (take m (y ∷ xs)) ++ drop m (y ∷ xs)) further

pub length_step : {X : Type 0} (f : X → X) (xs : List X) (n : ℕ) → length (map f (take n xs) ++ drop n xs) ≡ length xs
length_step f [] zero = refl
length_step f [] (suc n) = refl
length_step f (y ∷ xs) zero = refl
length_step f (y ∷ xs) (suc n) = ap suc (length_step f xs n)

-- one element is changed as all are, and then all, where that changes it no more
pub map_again : {X : Type 0} (f : X → X) (xs : List X) (n : ℕ) (x : X) → slice_get xs n ≡ Some x → f (f x) ≡ f x → map f (set xs n (f x)) ≡ map f xs
map_again f [] n x here same = absurd (cc)
map_again f (y ∷ xs) zero x here same = ap (λ z. z ∷ map f xs) (same ∙ ap f (sym (same_Some y x here)))
map_again f (y ∷ xs) (suc n) x here same = ap (λ rest. f y ∷ rest) (map_again f xs n x here same)
