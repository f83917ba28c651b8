-- Lists, place by place: of what stands at a place, and of the place's number, something holds.
use Rattle.std.specs.Prelude.{◌⊎◌, ℕ, zero, suc, List, [], ◌∷◌}

-- of each; the first place has this number
abbrev pub EachFrom : {X : Type 0} → (ℕ → X → Type 0) → ℕ → List X → Type 0
EachFrom P n [] = Unit {0}
EachFrom P n (x ∷ xs) = P n x × EachFrom P (suc n) xs

-- of one of them
abbrev pub SomeFrom : {X : Type 0} → (ℕ → X → Type 0) → ℕ → List X → Type 0
SomeFrom P n [] = ⊥
SomeFrom P n (x ∷ xs) = P n x ⊎ SomeFrom P (suc n) xs

-- of two lists, of what stands at the same place of both, and of that place; the first place has this number
abbrev pub AtEach : {X Y : Type 0} → (ℕ → X → Y → Type 0) → ℕ → List X → List Y → Type 0
AtEach R p [] [] = Unit {0}
AtEach R p [] (y ∷ ys) = ⊥
AtEach R p (x ∷ xs) [] = ⊥
AtEach R p (x ∷ xs) (y ∷ ys) = R p x y × AtEach R (suc p) xs ys

-- of what stands at this place of one list something holds
abbrev pub IsAt : {X : Type 0} → ℕ → List X → (X → Type 0) → Type 0
IsAt p [] P = ⊥
IsAt zero (x ∷ xs) P = P x
IsAt (suc p) (x ∷ xs) P = IsAt p xs P
