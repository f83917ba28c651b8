-- How the reads of a call are counted.
use Rattle.std.specs.Prelude.{◌≡◌}
use Rattle.tc_bytes.specs.Counts.{next_count}
use Rattle.tc_store.specs.Counted.{Counts, IsCountedOnce}

-- A call that looks for a key. At most one read, and none where that is not wanted. Where the call failed for a fault, one was counted.
pub record IsCountedLookup (Failed Unwanted : Type 0) (old new : Counts) : Type 0 where
  pub once : IsCountedOnce Failed ⊥ old new
  pub none : Unwanted → new.reads ≡ old.reads

-- A call of two reads, as it takes to load a component.
abbrev pub ReadsTwice : Counts → Counts → Type 0
ReadsTwice old new = new.reads ≡ next_count (next_count old.reads)
