-- How many reads the calls below make.
use Rattle.std.specs.Prelude.{◌≡◌, ◌≤◌, ℕ, zero, suc}
use Rattle.tc_bytes.specs.Counts.{Rose, next_count}
use Rattle.tc_store.specs.Counted.{Counts}

-- a count after so many more
abbrev pub count_after : ℕ → ℕ → ℕ
count_after zero count = count
count_after (suc n) count = next_count (count_after n count)

-- A call of so many reads where it is done. Where it failed for a fault, one was counted.
pub record IsCountedTimes (Failed Done : Type 0) (times : ℕ) (old new : Counts) : Type 0 where
  pub faults : old.faults ≤ new.faults
  pub cause : Failed → Rose old.faults new.faults
  pub done : Done → new.reads ≡ count_after times old.reads
