-- Keys that are a partition's own.
use Rattle.std.specs.Prelude.{◌≡◌, ◌%◌, ℕ, length, All, Option}
use Rattle.tc_keeper.specs.Standing.{IsSeen}
use Rattle.tc_plain_model.specs.Writes.{Pairs}
use Rattle.tc_run_model.specs.World.{World}
use Rattle.tc_keeper.specs.Places.{EachFrom}

-- keys of the partition of a number, of so many, alone: those of which it is the rest
abbrev pub AreOwn : ℕ → ℕ → Pairs → Type 0
AreOwn count p pairs = All (λ e. e.0 % count ≡ p) pairs

-- each partition of a world has keys of its own alone, or the one of this number
abbrev pub HaveOwn : Option ℕ → World → Type 0
HaveOwn only w = EachFrom (λ p part. IsSeen only p → AreOwn (length w.parts) p part.now.pairs) 0 w.parts
