use Rattle.tc_bits.proofs.Written.{nothing_written}
use Rattle.tc_bits.proofs.writer.ColumnWriter.of.Goals as goal

pub returns-clause-nothing : goal.returns-clause-nothing
returns-clause-nothing c = λ ns. nothing_written c.args.width ns
