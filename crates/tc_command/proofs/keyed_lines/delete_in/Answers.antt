use Rattle.tc_command.proofs.KeyedLineLemmas.{delete_line, spaced_delete_line}
use Rattle.tc_command.proofs.keyed_lines.delete_in.Goals as goal

pub returns-in-Some-clause-asked : goal.returns-in-Some-clause-asked
returns-in-Some-clause-asked c = delete_line c.args.line.now c.in-Some.key c.in-Some.ensures.spelled c.in-Some.ensures.bound

pub returns-clause-asked : goal.returns-clause-asked
returns-clause-asked c = spaced_delete_line c.args.line.now c.in_ok-key.key c.in_ok-key.ensures.spelled c.in_ok-key.ensures.bound
