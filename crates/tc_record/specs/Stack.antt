-- The levels that are open, innermost first, from the array that holds them, or from the bits that tell which are arrays.
use Rattle.std.specs.Prelude.{ℕ, zero, suc, ◌/◌, ◌%◌, ◌==◌, Bool, true, false, List, [], ◌∷◌, get_or, None}
use Rattle.tc_record.specs.Walk as walk
use Rattle.tc_record.specs.WalkView.{level_of}
use Rattle.tc_record.specs.declared.reader.Level.{Level}
use Rattle.tc_record.specs.declared.reader.Level.TheVariants as level

abbrev pub stack_of : List Level → ℕ → List walk.Level
stack_of levels zero = []
stack_of levels (suc n) = level_of (get_or levels n level.Array) ∷ stack_of levels n

-- a level of which is told whether it is an array
abbrev pub kind_of : Bool → walk.Level
kind_of true = walk.in_array
kind_of false = walk.in_object None

-- the innermost level by the lowest bit of a number, and the others by its other bits
abbrev pub is_array : ℕ → Bool
is_array arrays = arrays % 2 == 1

abbrev pub kinds_of : ℕ → ℕ → List walk.Level
kinds_of arrays zero = []
kinds_of arrays (suc n) = kind_of (is_array arrays) ∷ kinds_of (arrays / 2) n
