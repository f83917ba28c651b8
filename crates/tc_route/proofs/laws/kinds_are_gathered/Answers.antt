use Rattle.tc_route.proofs.KindsGathered.{are_kinds_gathered}
use Rattle.tc_route.proofs.laws.kinds_are_gathered.Goals as goal

pub returns : goal.returns
returns c = are_kinds_gathered
