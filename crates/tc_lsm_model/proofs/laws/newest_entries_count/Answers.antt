use Rattle.tc_lsm_model.proofs.ListLaws.{Ascends-live}
use Rattle.tc_lsm_model.proofs.ListLookups.{live-newest, newest-found, newest-none}
use Rattle.tc_lsm_model.proofs.laws.newest_entries_count.Goals as goal

pub returns-clause-live : goal.returns-clause-live
returns-clause-live c = live-newest

pub returns-clause-found : goal.returns-clause-found
returns-clause-found c = λ older newer content key held. newest-found older content newer key held

pub returns-clause-none : goal.returns-clause-none
returns-clause-none c = λ cs key. newest-none key cs

pub returns-clause-ascends : goal.returns-clause-ascends
returns-clause-ascends c = Ascends-live
