use Rattle.tc_lsm_model.proofs.FlushLaws.{flushed_reopened}
use Rattle.tc_lsm_model.proofs.laws.flushes_hold_logs.Goals as goal

pub returns : goal.returns
returns c = flushed_reopened
