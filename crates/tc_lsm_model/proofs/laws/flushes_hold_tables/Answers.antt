use Rattle.tc_lsm_model.proofs.FlushLaws.{flushed_list, flushed_live, names_of-push, schema_of-push, last_of-push, one_flush}
use Rattle.tc_lsm_model.proofs.laws.flushes_hold_tables.Goals as goal

pub returns-clause-list : goal.returns-clause-list
returns-clause-list c = flushed_list

pub returns-clause-live : goal.returns-clause-live
returns-clause-live c = flushed_live

pub returns-clause-names : goal.returns-clause-names
returns-clause-names c = names_of-push

pub returns-clause-schema : goal.returns-clause-schema
returns-clause-schema c = schema_of-push

pub returns-clause-last : goal.returns-clause-last
returns-clause-last c = last_of-push

pub returns-clause-one : goal.returns-clause-one
returns-clause-one c = one_flush
