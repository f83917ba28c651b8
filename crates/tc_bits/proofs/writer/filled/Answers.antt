use Rattle.std.proofs.Common.{arith}
use Rattle.std.proofs.lemmas.Nat.{shl_whole}
use Rattle.tc_bits.proofs.writer.filled.Goals as goal

pub returns : goal.returns
returns c = shl_whole c.args.number 32 c.args.zeros 64 c.requires.small (omega (arith, c.requires.few))
