-- Counts of faults, and what a call does to them.
use Rattle.std.specs.Prelude.{ℕ, ◌≤◌, nat_lt, nat_eq, Bool, true, ◌&&◌, if◌then◌else◌, List, length, Result, Ok, Err, OnErr}
use Rattle.tc_bytes.specs.Counts.{next_count, Rose}

-- a count of faults after a call that failed, or that did not
abbrev pub count_after : Bool → ℕ → ℕ
count_after failed n = if failed then next_count n else n

-- a write failed, or took nothing of bytes that were there
abbrev pub is_failed_write : {E : Type 0} → Result ℕ E → List ℕ → Bool
is_failed_write (Ok n) from = nat_eq n 0 && nat_lt 0 (length from)
is_failed_write (Err e) from = true

-- the count did not fall, and it rose where the call failed
pub record HasCause {T E : Type 0} (before now : ℕ) (result : Result T E) : Type 0 where
  pub kept : before ≤ now
  pub failed : OnErr result (Rose before now)
