use Rattle.tc_part_model.proofs.ClosedPictures.{close_both_open, close_opens}
use Rattle.tc_part_model.proofs.closing.closed_parts_open_as_they_are.Goals as goal

pub returns-clause-one : goal.returns-clause-one
returns-clause-one c = close_opens

pub returns-clause-both : goal.returns-clause-both
returns-clause-both c = close_both_open
