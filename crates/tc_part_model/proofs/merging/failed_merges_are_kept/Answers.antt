use Rattle.tc_part_model.proofs.MergedParts.{merge_not_listed}
use Rattle.tc_part_model.proofs.merging.failed_merges_are_kept.Goals as goal

pub returns : goal.returns
returns c = merge_not_listed
