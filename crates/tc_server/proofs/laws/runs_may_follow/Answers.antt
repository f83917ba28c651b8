use Rattle.tc_server.proofs.RunsFollow.{may_follow}
use Rattle.tc_server.proofs.laws.runs_may_follow.Goals as goal

pub returns : goal.returns
returns c = may_follow
