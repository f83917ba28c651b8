-- The counts of faults of the four watches of a kit.
use Rattle.std.specs.Prelude.{ℕ}

pub record KitFaults : Type 0 where
  pub main : ℕ
  pub flusher : ℕ
  pub merger : ℕ
  pub reader : ℕ
