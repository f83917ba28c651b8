use Rattle.std.proofs.Common.{ℕ, ◌<◌, ◌^◌, Fits, w32, arith}
use Rattle.tc_bits.proofs.Written.{high_below}
use Rattle.tc_bits.proofs.writer.put_four.Goals as goal

pub overflow_cast-number : goal.overflow_cast-number
overflow_cast-number c = fits_from (high_below c.args.number c.args.below c.requires.small)
  where
    fits_from : {n : ℕ} → n < 2 ^ 32 → Fits w32 n
    fits_from below = omega (arith, below)
