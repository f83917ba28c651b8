-- A list of sizes is walked from its end as long as what was passed sums to at most a limit.
use Rattle.std.proofs.Common.{◌≡◌, ◌+◌, ℕ, List, ◌++◌}
use Rattle.std.specs.List.{sum}

-- what is left of a walk, and how far the sum of what it passed is below the limit
pub record IsWithin (limit : ℕ) (all left : List ℕ) (room : ℕ) : Type 0 where
  pub passed : List ℕ
  pub is : all ≡ left ++ passed
  pub spent : sum passed + room ≡ limit
