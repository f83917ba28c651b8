-- The numbers that are left of a column, read from a place in the bytes of a record on.
use Rattle.std.specs.Prelude.{◌≡◌, ◌≤◌, ◌<◌, ℕ, zero, suc, ◌+◌, ◌-◌, List, [], ◌∷◌}
use Rattle.tc_bits.specs.Bits.{bits_at, field_of}

-- so many elements of so many bits each, from a place on
abbrev pub elements_from : ℕ → ℕ → ℕ → List ℕ → List ℕ
elements_from w place zero bytes = []
elements_from w place (suc n) bytes = bits_at w place bytes ∷ elements_from w (place + w) n bytes

-- where there are elements they have bits
abbrev pub HasWidth : ℕ → ℕ → Type 0
HasWidth w left = 0 < left → 0 < w

-- a number from which all bits are read that stand in so many before an end
abbrev pub IsSeen : ℕ → ℕ → ℕ → List ℕ → Type 0
IsSeen number seen end bytes = (w place : ℕ) → 1 ≤ w → place + w ≤ end → end ≤ place + seen → field_of (end - (place + w)) w number ≡ bits_at w place bytes
