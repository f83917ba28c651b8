use Rattle.tc_lsm_model.proofs.TableCounts.{count-over, keeps_rest}
use Rattle.tc_lsm_model.proofs.laws.tables_count.Goals as goal

pub returns-clause-counted : goal.returns-clause-counted
returns-clause-counted c = count-over

pub returns-clause-rest : goal.returns-clause-rest
returns-clause-rest c = keeps_rest
