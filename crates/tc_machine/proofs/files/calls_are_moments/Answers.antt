use Rattle.tc_machine.proofs.LogHeads.{new_log}
use Rattle.tc_machine.proofs.Moments.{moments_run, appending, creating, making, making_flush}
use Rattle.tc_machine.proofs.files.calls_are_moments.Goals as goal

pub returns-clause-run : goal.returns-clause-run
returns-clause-run c = moments_run

pub returns-clause-appended : goal.returns-clause-appended
returns-clause-appended c = appending

pub returns-clause-created : goal.returns-clause-created
returns-clause-created c = creating

pub returns-clause-new_log : goal.returns-clause-new_log
returns-clause-new_log c = new_log

pub returns-clause-made : goal.returns-clause-made
returns-clause-made c = making

pub returns-clause-flushed : goal.returns-clause-flushed
returns-clause-flushed c = making_flush
