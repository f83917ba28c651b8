use Rattle.tc_part_model.proofs.Failures.{fails_as}
use Rattle.tc_part_model.proofs.failing.failures_are_kept.Goals as goal

pub returns : goal.returns
returns c = fails_as
