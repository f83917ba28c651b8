use Rattle.tc_part_model.proofs.SealedParts.{seal_is_part, seal_stored}
use Rattle.tc_part_model.proofs.sealing.seals_are_kept.Goals as goal

pub returns-clause-sealed : goal.returns-clause-sealed
returns-clause-sealed c = λ t u p device is none nothing fresh head has. seal_is_part t p is none nothing device fresh head u has

pub returns-clause-stored : goal.returns-clause-stored
returns-clause-stored c = seal_stored
