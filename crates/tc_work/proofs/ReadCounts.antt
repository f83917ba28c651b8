-- The reads of calls that follow each other.
use Rattle.std.proofs.Common.{◌≡◌, ◌≤◌, ◌+◌, ℕ, List, [], ◌∷◌, inl, inr, arith, subst}
use Rattle.tc_bytes.specs.Counts.{Rose}
use Rattle.tc_request_model.specs.Request.{Request, upsert, delete, get, query, flush, schema, scan, collect, refused}
use Rattle.tc_query.specs.Faults.{IsWatched}
use Rattle.tc_store.specs.Counted.{Counts, IsCounted}
use Rattle.tc_part.specs.Reads.{IsCountedLookup}
use Rattle.tc_part_model.specs.PartState.{PartState}
use Rattle.tc_work.specs.Asked.{writes_for}
use Rattle.tc_work.specs.Reads.{live_in, reads_for, most_reads, IsCountedWithin}

pub rose_since : (a b c : Counts) → a.faults ≤ b.faults → Rose b.faults c.faults → Rose a.faults c.faults
rose_since a b c up rose = omega (arith, up, rose)

-- a call that looks for a key
pub one_lookup : (Failed Cause Unwanted : Type 0) (old new : Counts) → (Failed → Cause) → IsCountedLookup Cause Unwanted old new → IsCountedWithin 1 Failed old new
one_lookup Failed Cause Unwanted old new cause is = record {
  faults = is.once.faults;
  cause = λ failed. is.once.cause (cause failed);
  reads = elim is.once.reads [ inl same ↦ omega (arith, same) | inr next ↦ omega (arith, next) ];
}

-- a call that counts nothing
pub none_counted : (most : ℕ) (Failed : Type 0) (counts : Counts) → (Failed → ⊥) → IsCountedWithin most Failed counts counts
none_counted most Failed counts never = record { faults = omega arith; cause = λ failed. absurd (never failed); reads = omega arith }

-- a query
pub one_query : (most : ℕ) (Failed Cause : Type 0) (old new : Counts) → (Failed → Cause) → IsWatched Cause old new → new.reads ≤ old.reads + most → IsCountedWithin most Failed old new
one_query most Failed Cause old new cause is few = record { faults = is.faults; cause = λ failed. is.cause (cause failed); reads = few }

-- ---- over a window

-- no fault was counted, and with those of the requests that are left there are at most so many reads
pub record HaveRead (most left : ℕ) (old new : Counts) : Type 0 where
  pub faults : old.faults ≤ new.faults
  pub reads : new.reads + left ≤ old.reads + most

pub none_read : (most : ℕ) (counts : Counts) → HaveRead most most counts counts
none_read most counts = record { faults = omega arith; reads = omega arith }

-- where more keys have a document, there may be more reads
reads_up : (live more : ℕ) (r : Request) → live ≤ more → reads_for live r ≤ reads_for more r
reads_up live more (upsert n d) up = omega arith
reads_up live more (delete n) up = omega arith
reads_up live more (get n) up = omega arith
reads_up live more (query ask) up = up
reads_up live more flush up = omega arith
reads_up live more schema up = omega arith
reads_up live more (scan ask) up = omega arith
reads_up live more collect up = omega arith
reads_up live more (refused r) up = omega arith

most_up : (live more : ℕ) (rs : List Request) → live ≤ more → most_reads live rs ≤ most_reads more rs
most_up live more [] up = omega arith
most_up live more (r ∷ rs) up =
    let rest = most_up (live + writes_for r) (more + writes_for r) rs (omega (arith, up)) in
    omega (arith, reads_up live more r up, rest)

-- one more request was answered
pub read_on : (most live now : ℕ) (r : Request) (rs : List Request) (Failed : Type 0) (a b c : Counts) → HaveRead most (most_reads live (r ∷ rs)) a b → IsCountedWithin (reads_for live r) Failed b c → now ≤ live + writes_for r → HaveRead most (most_reads now rs) a c
read_on most live now r rs Failed a b c one two up =
    let rest = most_up now (live + writes_for r) rs up in
    record { faults = omega (arith, one.faults, two.faults); reads = omega (arith, one.reads, two.reads, rest) }

-- the call ends behind one more request
pub read_ended : (most live : ℕ) (r : Request) (rs : List Request) (Failed Cause : Type 0) (a b c : Counts) → HaveRead most (most_reads live (r ∷ rs)) a b → IsCountedWithin (reads_for live r) Cause b c → (Failed → Cause) → IsCountedWithin most Failed a c
read_ended most live r rs Failed Cause a b c one two cause = record {
  faults = omega (arith, one.faults, two.faults);
  cause = λ failed. rose_since a b c one.faults (two.cause (cause failed));
  reads = omega (arith, one.reads, two.reads);
}

-- all were answered
pub read_within : (most left : ℕ) (Failed : Type 0) (old new : Counts) → HaveRead most left old new → (Failed → ⊥) → IsCountedWithin most Failed old new
read_within most left Failed old new is never = record { faults = is.faults; cause = λ failed. absurd (never failed); reads = omega (arith, is.reads) }

-- more may be counted
pub counted_weaker : (m n : ℕ) (Failed Cause : Type 0) (old new : Counts) → m ≤ n → (Failed → Cause) → IsCountedWithin m Cause old new → IsCountedWithin n Failed old new
counted_weaker m n Failed Cause old new up cause is = record { faults = is.faults; cause = λ failed. is.cause (cause failed); reads = omega (arith, is.reads, up) }

-- a commit behind calls that did not fail
pub committed_counted : (most : ℕ) (First Failed Cause : Type 0) (a b c : Counts) → IsCountedWithin most First a b → IsCounted Cause b c → (Failed → Cause) → IsCountedWithin most Failed a c
committed_counted most First Failed Cause a b c one two cause = record {
  faults = omega (arith, one.faults, two.faults);
  cause = λ failed. rose_since a b c one.faults (two.cause (cause failed));
  reads = omega (arith, one.reads, two.reads);
}

-- a call of the part that is seen so
pub counted_inside : {S D F W : Type 0} (counts : W → Counts) (rs : List Request) (Failed Cause : Type 0) (inside seen new : PartState S D F W) → inside ≡ seen → IsCountedWithin (most_reads (live_in inside) rs) Cause (counts inside.main) (counts new.main) → (Failed → Cause)
    → IsCountedWithin (most_reads (live_in seen) rs) Failed (counts seen.main) (counts new.main)
counted_inside {S = S} {D = D} {F = F} {W = W} counts rs Failed Cause inside seen new same is cause =
    subst (λ (s : PartState S D F W). IsCountedWithin (most_reads (live_in s) rs) Failed (counts s.main) (counts new.main)) same (record { faults = is.faults; cause = λ failed. is.cause (cause failed); reads = is.reads })
