use Rattle.tc_part_model.proofs.StartedParts.{opening_ends}
use Rattle.tc_part_model.proofs.starting.openings_end.Goals as goal

pub returns : goal.returns
returns c = opening_ends
