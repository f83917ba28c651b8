use Rattle.tc_part_model.proofs.FlushedParts.{flush_log_home_moments, flush_not_listed_moments}
use Rattle.tc_part_model.proofs.flushing.failed_flushes_leave_store.Goals as goal

pub returns-clause-not_listed : goal.returns-clause-not_listed
returns-clause-not_listed c = flush_not_listed_moments

pub returns-clause-log_home : goal.returns-clause-log_home
returns-clause-log_home c = flush_log_home_moments
