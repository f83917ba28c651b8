-- How reads add up.
use Rattle.std.proofs.Common.{◌≤◌, ◌+◌, ℕ, inl, inr, arith}
use Rattle.tc_store.specs.Counted.{Counts}
use Rattle.tc_part.specs.Reads.{IsCountedLookup}
use Rattle.tc_open.specs.Reads.{IsCountedUpTo}

pub lookup_counts : (Failed Unwanted : Type 0) (old new : Counts) → IsCountedLookup Failed Unwanted old new → IsCountedUpTo Failed 1 old new
lookup_counts Failed Unwanted old new is = record {
  watched = record { faults = is.once.faults; cause = is.once.cause };
  within = elim is.once.reads [
    | inl same ↦ omega (arith, same)
    | inr next ↦ omega (arith, next)
  ];
}

pub none_counts : (Failed : Type 0) (counts : Counts) → (Failed → ⊥) → IsCountedUpTo Failed 0 counts counts
none_counts Failed counts never = record { watched = record { faults = omega arith; cause = λ failed. absurd (never failed) }; within = omega arith }

-- of a call that did not fail
pub done_counts : (Failed : Type 0) (most : ℕ) (old new : Counts) → IsCountedUpTo Failed most old new → IsCountedUpTo ⊥ most old new
done_counts Failed most old new is = record { watched = record { faults = is.watched.faults; cause = λ never. absurd never }; within = is.within }

-- calls that follow each other, of which the first did not fail
pub counts_follow : (Failed Fails : Type 0) (m n most : ℕ) (old between new : Counts) → IsCountedUpTo ⊥ m old between → IsCountedUpTo Failed n between new → (Fails → Failed) → m + n ≤ most → IsCountedUpTo Fails most old new
counts_follow Failed Fails m n most old between new first second fails within = record {
  watched = record {
    faults = omega (arith, first.watched.faults, second.watched.faults);
    cause = λ failed. omega (arith, first.watched.faults, second.watched.cause (fails failed));
  };
  within = omega (arith, first.within, second.within, within);
}
