use Rattle.tc_machine.proofs.OpeningSteps.{opened_is_kept}
use Rattle.tc_machine.proofs.runs.openings_are_kept.Goals as goal

pub returns : goal.returns
returns c = opened_is_kept
