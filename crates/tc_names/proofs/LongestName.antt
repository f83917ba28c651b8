-- How long the longest name is, with one name more.
use Rattle.std.proofs.Common.{◌≡◌, ℕ, max, List, [], ◌∷◌, ◌++◌, length, arith}
use Rattle.tc_names.specs.Longest.{longest_of}

-- of names and one more after them, that one is the longest, or one of the others is
pub longest-push : (names : List (List ℕ)) (name : List ℕ) → longest_of (names ++ name ∷ []) ≡ max (longest_of names) (length name)
longest-push [] name = omega arith
longest-push (first ∷ names) name = omega (arith, longest-push names name)
