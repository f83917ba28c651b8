-- What the calls that are handed a watch count on it.
use Rattle.std.specs.Prelude.{◌≡◌, ◌≤◌, ◌⊎◌, ℕ}
use Rattle.tc_bytes.specs.Counts.{Rose, next_count}

-- what a watch has counted
pub record Counts : Type 0 where
  -- the calls that failed
  pub faults : ℕ
  -- the reads
  pub reads : ℕ

-- A call without a read. Where it failed for a fault, one was counted.
pub record IsCounted (Failed : Type 0) (old new : Counts) : Type 0 where
  pub faults : old.faults ≤ new.faults
  pub cause : Failed → Rose old.faults new.faults
  pub reads : new.reads ≡ old.reads

-- A call of one read.
pub record IsCountedRead (Failed : Type 0) (old new : Counts) : Type 0 where
  pub faults : old.faults ≤ new.faults
  pub cause : Failed → Rose old.faults new.faults
  pub reads : new.reads ≡ next_count old.reads

-- A call of one read where it is done, and of at most one where it is not.
pub record IsCountedOnce (Failed Done : Type 0) (old new : Counts) : Type 0 where
  pub faults : old.faults ≤ new.faults
  pub cause : Failed → Rose old.faults new.faults
  pub done : Done → new.reads ≡ next_count old.reads
  pub reads : (new.reads ≡ old.reads) ⊎ (new.reads ≡ next_count old.reads)
