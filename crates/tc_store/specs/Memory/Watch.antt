-- A watch in memory: which calls are to fail, and what was counted.
use Rattle.std.specs.Prelude.{◌≡◌, ℕ, Bool, ◌==◌, if◌then◌else◌, List}
use Rattle.std.specs.List.{list_any}
use Rattle.tc_bytes.specs.Counts.{next_count}
use Rattle.tc_store.specs.Counted.{Counts}

pub record MemCounts : Type 0 where
  -- the numbers of the calls that fail, which are counted from 0
  pub failing : List ℕ
  -- the number of the next call
  pub calls : ℕ
  pub faults : ℕ
  pub reads : ℕ

-- what a watch in memory has counted
abbrev pub counts_of : MemCounts → Counts
counts_of counts = record { faults = counts.faults; reads = counts.reads }

-- the next call is to fail
abbrev pub is_failing : MemCounts → Bool
is_failing counts = list_any (λ number. number == counts.calls) counts.failing

-- the counts after a call
abbrev pub after_call : MemCounts → MemCounts
after_call counts =
    record counts { calls = next_count counts.calls; faults = if is_failing counts then next_count counts.faults else counts.faults }

-- the counts after a fault that no number asked for
abbrev pub after_fault : MemCounts → MemCounts
after_fault counts = record counts { faults = next_count counts.faults }

-- the counts after a read
abbrev pub after_read : MemCounts → MemCounts
after_read counts = let called = after_call counts in record called { reads = next_count counts.reads }

-- a call got the next number
pub record IsNumbered (old new : MemCounts) : Type 0 where
  pub failing : new.failing ≡ old.failing
  pub calls : new.calls ≡ next_count old.calls
