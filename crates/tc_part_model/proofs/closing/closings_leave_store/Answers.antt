use Rattle.tc_part_model.proofs.HomeMoments.{close_both_moments, close_moments}
use Rattle.tc_part_model.proofs.closing.closings_leave_store.Goals as goal

pub returns-clause-one : goal.returns-clause-one
returns-clause-one c = close_moments

pub returns-clause-both : goal.returns-clause-both
returns-clause-both c = close_both_moments
