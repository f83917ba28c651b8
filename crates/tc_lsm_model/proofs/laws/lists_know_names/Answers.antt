use Rattle.tc_lsm_model.proofs.ListNewest.{newest_of_list}
use Rattle.tc_lsm_model.proofs.ListNames.{named-live, Extends-front}
use Rattle.tc_lsm_model.proofs.laws.lists_know_names.Goals as goal

pub returns-clause-dictionary : goal.returns-clause-dictionary
returns-clause-dictionary c = λ part cs all. (newest_of_list part cs all).dictionary

pub returns-clause-live : goal.returns-clause-live
returns-clause-live c = named-live

pub returns-clause-extends : goal.returns-clause-extends
returns-clause-extends c = Extends-front
