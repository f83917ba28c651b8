-- What a source and a sink in memory are.
use Rattle.std.specs.Prelude.{ℕ, List}

-- Bytes that are left, and at most `piece` of them go in a call. The calls made so far are counted,
-- and those whose numbers are in `failing` fail; the first call has number 0.
pub record MemoryInput : Type 0 where
  pub left : List ℕ
  pub piece : ℕ
  pub failing : List ℕ
  pub calls : ℕ
  pub faults : ℕ

-- Bytes that were taken, and at most `piece` of them go in a call. The calls are counted likewise.
pub record MemoryOutput : Type 0 where
  pub taken : List ℕ
  pub piece : ℕ
  pub failing : List ℕ
  pub calls : ℕ
  pub faults : ℕ
