use Rattle.std.proofs.Common.{arith}
use Rattle.tc_bits.proofs.Written.{lowest_bits}
use Rattle.tc_bits.proofs.writer.lowest.Goals as goal

pub returns : goal.returns
returns c = lowest_bits c.args.bits c.args.number (omega (arith, c.requires))
