use Rattle.tc_server.proofs.GoodRuns.{ends_well}
use Rattle.tc_server.proofs.laws.good_runs_end_well.Goals as goal

pub returns : goal.returns
returns c = ends_well
