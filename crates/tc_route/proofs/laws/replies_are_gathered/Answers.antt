use Rattle.tc_route.proofs.GatheredWindows.{are_gathered}
use Rattle.tc_route.proofs.laws.replies_are_gathered.Goals as goal

pub returns : goal.returns
returns c = are_gathered
