-- Which components a policy picks for a merge, by the sizes of their files.
use Rattle.std.specs.Prelude.{◌≡◌, ◌≤◌, ◌+◌, ◌⊎◌, ℕ, List, length, drop}
use Rattle.std.specs.List.{sum}
use Rattle.tc_list.specs.declared.policy.Policy.{Policy}
use Rattle.tc_list.specs.declared.policy.Policy.TheVariants.{Constant, Sized}
use Rattle.tc_list.specs.declared.run.Run.{Run}

-- so many components are listed at least where some are merged
abbrev pub listed_least : Policy → ℕ
listed_least (Constant k) = k
listed_least (Sized k limit) = k

-- the suffix from a position on has two components or more, whose sizes sum to at most a limit
pub record SuffixFits (limit : ℕ) (sizes : List ℕ) (first : ℕ) : Type 0 where
  pub two : first + 2 ≤ length sizes
  pub small : sum (drop first sizes) ≤ limit

-- and no longer one is such
pub record IsLongest (limit : ℕ) (sizes : List ℕ) (first : ℕ) : Type 0 where
  pub fits : SuffixFits limit sizes first
  pub longest : (other : ℕ) → SuffixFits limit sizes other → first ≤ other

-- where the picked components begin: with the longest suffix that fits, where one fits, or else with the first
abbrev pub BeginsAt : Policy → List ℕ → ℕ → Type 0
BeginsAt (Constant k) sizes first = first ≡ 0
BeginsAt (Sized k limit) sizes first = IsLongest limit sizes first ⊎ (((other : ℕ) → SuffixFits limit sizes other → ⊥) × (first ≡ 0))

-- they end with the newest
pub record IsPicked (policy : Policy) (sizes : List ℕ) (run : Run) : Type 0 where
  pub begins : BeginsAt policy sizes run.first
  pub ends : run.last + 1 ≡ length sizes
