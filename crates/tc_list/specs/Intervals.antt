-- The intervals of the components of a list.
use Rattle.std.specs.Prelude.{◌≡◌, ◌+◌, ℕ, List, [], ◌∷◌}
use Rattle.tc_component.specs.Loading.{ComponentState}

-- the first generation, or 1 where there is none
abbrev pub first_of : {F : Type 0} → List (ComponentState F) → ℕ
first_of [] = 1
first_of (c ∷ cs) = c.index.head.from

-- the last generation of those that stand behind one
abbrev pub last_after : {F : Type 0} → ℕ → List (ComponentState F) → ℕ
last_after generation [] = generation
last_after generation (c ∷ cs) = last_after c.index.head.to cs

-- the last generation, or 0 where there is none
abbrev pub last_of : {F : Type 0} → List (ComponentState F) → ℕ
last_of cs = last_after 0 cs

-- each begins behind the one before, and the first behind a generation
abbrev pub Follow : {F : Type 0} → ℕ → List (ComponentState F) → Type 0
Follow generation [] = Unit {0}
Follow generation (c ∷ cs) = (c.index.head.from ≡ generation + 1) × Follow c.index.head.to cs
