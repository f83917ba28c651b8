-- Membership in a list by its first element.
use Rattle.std.proofs.Common.{◌≡◌, ◌⊎◌, zero, suc, List, [], ◌∷◌, refl, inl, inr, arith}
use Rattle.std.specs.Prelude.{Contains}

pub member_cases : {X : Type 0} (x : X) (xs : List X) (y : X) → Contains (x ∷ xs) y → (x ≡ y) ⊎ Contains xs y
member_cases x xs y (zero, low, same) = inl same
member_cases x xs y (suc k, low, same) = inr (k, omega arith, same)

pub member_first : {X : Type 0} (x : X) (xs : List X) → Contains (x ∷ xs) x
member_first x xs = (0, omega arith, refl)

pub member_further : {X : Type 0} (x : X) (xs : List X) (y : X) → Contains xs y → Contains (x ∷ xs) y
member_further x xs y (k, low, same) = (suc k, omega arith, same)

pub no_member : {X : Type 0} (y : X) → Contains [] y → ⊥
no_member y member = absurd (omega (arith, member.1))

-- each of these is one of those
abbrev pub AreAmong : {X : Type 0} → List X → List X → Type 0
AreAmong {X = X} xs ys = (x : X) → Contains xs x → Contains ys x
