use Rattle.tc_lsm_model.proofs.ListNewest.{newest_of_list}
use Rattle.tc_lsm_model.proofs.laws.lists_have_schemas.Goals as goal

pub returns-clause-stands : goal.returns-clause-stands
returns-clause-stands c = λ part cs all. (newest_of_list part cs all).stands

pub returns-clause-lawful : goal.returns-clause-lawful
returns-clause-lawful c = λ part cs all. (newest_of_list part cs all).schema

pub returns-clause-room : goal.returns-clause-room
returns-clause-room c = λ part cs all. (newest_of_list part cs all).room

pub returns-clause-last : goal.returns-clause-last
returns-clause-last c = λ part cs all. (newest_of_list part cs all).last
