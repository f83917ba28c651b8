use Rattle.std.proofs.Common.{sym}
use Rattle.tc_audit.proofs.WaitingLaws.{all_settled}
use Rattle.tc_audit.proofs.counting.Recount.settle.Goals as goal

pub returns-else-self-clause-settled : goal.returns-else-self-clause-settled
returns-else-self-clause-settled c = sym (all_settled c.args.self.now (c.requires.sound.settled c.if-self.false))
