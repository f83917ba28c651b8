-- Components that are a partition's own.
use Rattle.std.specs.Prelude.{ℕ, List, All, Option}
use Rattle.tc_component.specs.Loading.{ComponentState, IsAsJudged}
use Rattle.tc_jobs.specs.Lists.{IsOf}

-- Each has the numbers of this partition in its header, and is what its file is judged to be.
pub record AreOwnComponents {F : Type 0} (content : F → Option (List ℕ)) (number count : ℕ) (list : List (ComponentState F)) : Type 0 where
  pub each : All (IsOf number count) list
  pub judged : All (IsAsJudged content) list
