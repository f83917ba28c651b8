use Rattle.tc_part_model.proofs.FlushedParts.{flush_made_leaves}
use Rattle.tc_part_model.proofs.HomeMoments.{flush_home_moments, merge_home_moments}
use Rattle.tc_part_model.proofs.MergedParts.{merge_made_leaves}
use Rattle.tc_part_model.proofs.failing.failed_devices_leave_store.Goals as goal

pub returns-clause-flush : goal.returns-clause-flush
returns-clause-flush c = flush_home_moments

pub returns-clause-merge : goal.returns-clause-merge
returns-clause-merge c = merge_home_moments

pub returns-clause-whole_flush : goal.returns-clause-whole_flush
returns-clause-whole_flush c = flush_made_leaves

pub returns-clause-whole_merge : goal.returns-clause-whole_merge
returns-clause-whole_merge c = λ t m device. merge_made_leaves m t.disks device
