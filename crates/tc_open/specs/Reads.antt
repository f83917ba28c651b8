-- How the reads of a call are counted that looks for some keys.
use Rattle.std.specs.Prelude.{◌≤◌, ◌+◌, ℕ}
use Rattle.tc_store.specs.Counted.{Counts}
use Rattle.tc_merge.specs.Faults.{IsWatched}

-- At most so many reads. Where the call failed for a fault, one was counted.
pub record IsCountedUpTo (Failed : Type 0) (most : ℕ) (old new : Counts) : Type 0 where
  pub watched : IsWatched Failed old new
  pub within : new.reads ≤ old.reads + most
