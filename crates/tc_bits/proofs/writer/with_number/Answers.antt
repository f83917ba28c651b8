use Rattle.std.proofs.Common.{ℕ, ◌<◌, ◌^◌, Fits, w64, arith}
use Rattle.tc_bits.proofs.Written.{joined_is, joined_fits}
use Rattle.tc_bits.proofs.writer.with_number.Goals as goal

pub overflow_add-result : goal.overflow_add-result
overflow_add-result c = fits_from (joined_fits c.args.waiting c.args.bits c.args.width c.args.number c.from.result c.requires.few c.requires.small c.requires.most c.requires.fits c.from.ensures)
  where
    fits_from : {n : ℕ} → n < 2 ^ 64 → Fits w64 n
    fits_from below = omega (arith, below)

pub returns : goal.returns
returns c = joined_is c.args.waiting c.args.bits c.args.width c.args.number c.from.result c.requires.few c.requires.small c.requires.most c.from.ensures
