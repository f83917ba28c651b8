-- Values by key, in strictly ascending key.
use Rattle.std.specs.Prelude.{ℕ, List, [], ◌∷◌, map, ◌==◌, nat_lt, if◌then◌else◌, Option, Some, None}
use Rattle.std.specs.List.Sorted.{IsStrictlySortedBy}
use Rattle.std.specs.Map.{keys_of}
use Rattle.std.specs.Ordering.{nat_cmp}

abbrev pub Keyed : Type 0 → Type 0
Keyed V = List (ℕ × V)

-- that the keys ascend
abbrev pub Ascends : {V : Type 0} → Keyed V → Type 0
Ascends ps = IsStrictlySortedBy nat_cmp (keys_of ps)

-- the value of a key
abbrev pub value_of : {V : Type 0} → ℕ → Keyed V → Option V
value_of n [] = None
value_of n (p ∷ ps) = if n == p.0 then Some p.1 else value_of n ps

-- the values with this one at a key
abbrev pub with_value : {V : Type 0} → ℕ → V → Keyed V → Keyed V
with_value n v [] = (n, v) ∷ []
with_value n v (p ∷ ps) =
    if nat_lt n p.0 then (n, v) ∷ p ∷ ps
    else (if n == p.0 then (p.0, v) ∷ ps else p ∷ with_value n v ps)

-- the values without a key
abbrev pub without_key : {V : Type 0} → ℕ → Keyed V → Keyed V
without_key n [] = []
without_key n (p ∷ ps) = if n == p.0 then ps else p ∷ without_key n ps

-- the values, in ascending key
abbrev pub values_in : {V : Type 0} → Keyed V → List V
values_in ps = map (λ p. p.1) ps

-- an entry whose value is read by f
abbrev pub on_value : {X V : Type 0} → (X → V) → ℕ × X → ℕ × V
on_value f e = (e.0, f e.1)
