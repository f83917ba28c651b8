use Rattle.tc_difference.proofs.OneFirst.{one_first}
use Rattle.tc_difference.proofs.laws.one_is_first.Goals as goal

pub returns : goal.returns
returns c = one_first
