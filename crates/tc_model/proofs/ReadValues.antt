-- Values by key where each is read by a function: look-ups, order and changes are those of the values that were read.
use Rattle.std.proofs.Common.{◌≡◌, ℕ, Bool, true, false, [], ◌∷◌, refl, sym, ap, subst, map}
use Rattle.std.specs.Prelude.{Some, option_map, nat_lt, ◌==◌, if◌then◌else◌}
use Rattle.std.specs.List.Sorted.{IsStrictlySortedBy}
use Rattle.std.specs.Map.{keys_of}
use Rattle.std.specs.Ordering.{nat_cmp}
use Rattle.tc_model.specs.Keyed.{Keyed, Ascends, value_of, with_value, without_key, on_value}

pub value_of-read : {X V : Type 0} (f : X → V) (n : ℕ) (es : Keyed X) → value_of n (map (on_value f) es) ≡ option_map f (value_of n es)
value_of-read f n [] = refl
value_of-read f n (e ∷ es) = cases (n == e.0) (value_of-read f n es)
  where
    cases : (here : Bool) → value_of n (map (on_value f) es) ≡ option_map f (value_of n es) → (if here then Some (f e.1) else value_of n (map (on_value f) es)) ≡ option_map f (if here then Some e.1 else value_of n es)
    cases true more = refl
    cases false more = more

keys_of-read : {X V : Type 0} (f : X → V) (es : Keyed X) → keys_of (map (on_value f) es) ≡ keys_of es
keys_of-read f [] = refl
keys_of-read f (e ∷ es) = ap (λ keys. e.0 ∷ keys) (keys_of-read f es)

pub Ascends-read : {X V : Type 0} (f : X → V) (es : Keyed X) → Ascends es → Ascends (map (on_value f) es)
Ascends-read f es up = subst (IsStrictlySortedBy nat_cmp) (sym (keys_of-read f es)) up

-- ---- changes

pub map-with_value : {X V : Type 0} (f : X → V) (n : ℕ) (x : X) (es : Keyed X) → map (on_value f) (with_value n x es) ≡ with_value n (f x) (map (on_value f) es)
map-with_value f n x [] = refl
map-with_value f n x (e ∷ es) = cases (nat_lt n e.0) (n == e.0) (map-with_value f n x es)
  where
    cases : (first same : Bool) → map (on_value f) (with_value n x es) ≡ with_value n (f x) (map (on_value f) es)
        → map (on_value f) (if first then (n, x) ∷ e ∷ es else (if same then (e.0, x) ∷ es else e ∷ with_value n x es))
        ≡ (if first then (n, f x) ∷ on_value f e ∷ map (on_value f) es else (if same then (e.0, f x) ∷ map (on_value f) es else on_value f e ∷ with_value n (f x) (map (on_value f) es)))
    cases true same more = refl
    cases false true more = refl
    cases false false more = ap (λ rest. on_value f e ∷ rest) more

pub map-without_key : {X V : Type 0} (f : X → V) (n : ℕ) (es : Keyed X) → map (on_value f) (without_key n es) ≡ without_key n (map (on_value f) es)
map-without_key f n [] = refl
map-without_key f n (e ∷ es) = cases (n == e.0) (map-without_key f n es)
  where
    cases : (same : Bool) → map (on_value f) (without_key n es) ≡ without_key n (map (on_value f) es)
        → map (on_value f) (if same then es else e ∷ without_key n es) ≡ (if same then map (on_value f) es else on_value f e ∷ without_key n (map (on_value f) es))
    cases true more = refl
    cases false more = ap (λ rest. on_value f e ∷ rest) more
