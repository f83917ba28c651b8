use Rattle.tc_part_model.proofs.MergedParts.{merge_keeps_store, merge_listed, merge_listed_moments}
use Rattle.tc_part_model.proofs.merging.merges_are_listed.Goals as goal

pub returns-clause-listed : goal.returns-clause-listed
returns-clause-listed c = merge_listed

pub returns-clause-stored : goal.returns-clause-stored
returns-clause-stored c = merge_keeps_store

pub returns-clause-moments : goal.returns-clause-moments
returns-clause-moments c = merge_listed_moments
