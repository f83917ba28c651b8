-- Counters, and sums, with so many times more.
use Rattle.std.proofs.Common.{◌≡◌, ℕ, zero, suc, ◌+◌, ◌*◌, ◌<◌, refl, arith}
use Rattle.tc_model.specs.Kinds.{Kind}
use Rattle.tc_schema_model.specs.Counted.{Counters, no_counters, counter, total}
use Rattle.tc_schema_model.proofs.CounterLaws.{each_kind}
use Rattle.tc_audit.specs.Times.{counters_with}

pub counter-with : (k : ℕ) (e c : Counters) (t : Kind) → counter (counters_with k e c) t ≡ counter c t + k * counter e t
counter-with k e c t = each_kind (λ t. counter (counters_with k e c) t ≡ counter c t + k * counter e t) refl refl refl refl refl refl t

pub total-with : (k : ℕ) (e c : Counters) → total (counters_with k e c) ≡ total c + k * total e
total-with k e c = omega arith

-- nothing more
pub counters-with_none : (k : ℕ) (c : Counters) → counters_with k no_counters c ≡ c
counters-with_none k c = λ i. record { nulls = same c.nulls i; booleans = same c.booleans i; integers = same c.integers i; texts = same c.texts i; arrays = same c.arrays i; objects = same c.objects i }
  where
    same : (n : ℕ) → n + k * 0 ≡ n
    same n = omega arith

-- a sum is nothing only where both parts are, and is something where what is added is
pub none_of_both : (k a b : ℕ) → 0 < k → a + k * b ≡ 0 → (a ≡ 0) × (b ≡ 0)
none_of_both zero a b some none = absurd (omega arith)
none_of_both (suc k) a b some none = (omega (arith, none), omega (arith, none))

pub some_with : (k a b : ℕ) → 0 < k → 0 < b → 0 < a + k * b
some_with zero a b some here = absurd (omega arith)
some_with (suc k) a b some here = omega (arith, here)
