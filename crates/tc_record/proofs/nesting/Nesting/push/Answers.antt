use Rattle.std.proofs.Common.{arith}
use Rattle.tc_record.proofs.Stacks.{pushed}
use Rattle.tc_record.proofs.nesting.Nesting.push.Goals as goal

pub returns : goal.returns
returns c = pushed c.args.self.now.levels c.args.self.now.depth c.args.level (omega arith) (omega arith)
