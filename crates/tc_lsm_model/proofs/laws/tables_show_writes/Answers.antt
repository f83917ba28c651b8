use Rattle.tc_lsm_model.proofs.TableLaws.{over-table_over, IsTableOver-table_over}
use Rattle.tc_lsm_model.proofs.laws.tables_show_writes.Goals as goal

pub returns-clause-shown : goal.returns-clause-shown
returns-clause-shown c = over-table_over

pub returns-clause-keeps : goal.returns-clause-keeps
returns-clause-keeps c = λ pairs ws. (IsTableOver-table_over pairs ws).keeps

pub returns-clause-ascends : goal.returns-clause-ascends
returns-clause-ascends c = λ pairs ws. (IsTableOver-table_over pairs ws).ascends
