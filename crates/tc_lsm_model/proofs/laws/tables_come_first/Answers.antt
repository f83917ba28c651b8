use Rattle.tc_lsm_model.proofs.TableLaws.{held_in_table, held_below}
use Rattle.tc_lsm_model.proofs.laws.tables_come_first.Goals as goal

pub returns-clause-held : goal.returns-clause-held
returns-clause-held c = held_in_table

pub returns-clause-below : goal.returns-clause-below
returns-clause-below c = held_below
