use Rattle.tc_lsm_model.proofs.MergeLaws.{in_run-append, swapped-append}
use Rattle.tc_lsm_model.proofs.laws.runs_stay.Goals as goal

pub returns-clause-run : goal.returns-clause-run
returns-clause-run c = in_run-append

pub returns-clause-swapped : goal.returns-clause-swapped
returns-clause-swapped c = swapped-append
