use Rattle.tc_run_model.proofs.WindowCuts.{lines_in-windows, windows_are_cut}
use Rattle.tc_run_model.proofs.laws.windows_are_cut.Goals as goal

pub returns-clause-lines : goal.returns-clause-lines
returns-clause-lines c = lines_in-windows

pub returns-clause-reasons : goal.returns-clause-reasons
returns-clause-reasons c = windows_are_cut
