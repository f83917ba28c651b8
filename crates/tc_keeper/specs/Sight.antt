-- What is known of what is stored, when requests are answered: nothing, or a world, of which each partition is stored, or one.
use Rattle.std.specs.Prelude.{◌≡◌, ℕ, List, Option, Some, None}
use Rattle.tc_request_model.specs.Request.{Request}
use Rattle.tc_run_model.specs.Course.{requests_in}
use Rattle.tc_run_model.specs.Windows.{Window}
use Rattle.tc_plain_model.specs.Store.{Store}
use Rattle.tc_run_model.specs.World.{World, after_all, first_world}

pub data Sight : Type 0 where
  nothing : Sight
  -- each partition of the world is what is stored, or the one of this number alone, and the others are anything
  sees : Option ℕ → World → Sight

-- what all partitions store, where that is known: by this replies are told
abbrev pub whole_of : Sight → Option World
whole_of nothing = None
whole_of (sees None w) = Some w
whole_of (sees (Some p) w) = None

-- where something is known, this holds of the world, and of the partition that alone is known, if it is one alone
abbrev pub IfKnown : Sight → (Option ℕ → World → Type 0) → Type 0
IfKnown nothing P = Unit {0}
IfKnown (sees only w) P = P only w

-- what is known is a world in which a run begins
abbrev pub IsFirst : Sight → Type 0
IsFirst known = IfKnown known (λ only w. (stores : List Store) × (w ≡ first_world w.limits stores))

-- what is known behind requests
abbrev pub sight_after : List Request → Sight → Sight
sight_after rs nothing = nothing
sight_after rs (sees only w) = sees only (after_all rs w)

-- behind windows
abbrev pub sight_behind : Sight → List Window → Sight
sight_behind first ws = sight_after (requests_in ws) first
