use Rattle.tc_lsm_model.proofs.MergedEntries.{newest_are_last}
use Rattle.tc_lsm_model.proofs.laws.merges_take_newest.Goals as goal

pub returns : goal.returns
returns c = newest_are_last
