use Rattle.tc_machine.proofs.Events.{event_keeps, run_keeps}
use Rattle.tc_machine.proofs.Rebasing.{rebased_is_kept}
use Rattle.tc_machine.proofs.runs.events_keep.Goals as goal

pub returns-clause-event : goal.returns-clause-event
returns-clause-event c = event_keeps

pub returns-clause-run : goal.returns-clause-run
returns-clause-run c = run_keeps

pub returns-clause-rebased : goal.returns-clause-rebased
returns-clause-rebased c = rebased_is_kept
