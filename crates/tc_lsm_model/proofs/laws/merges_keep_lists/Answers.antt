use Rattle.tc_lsm_model.proofs.MergeLaws.{swapped_replaces, flush_stays, one_merge}
use Rattle.tc_lsm_model.proofs.laws.merges_keep_lists.Goals as goal

pub returns-clause-list : goal.returns-clause-list
returns-clause-list c = λ part run cs merge all is. (swapped_replaces part run cs merge all is).list

pub returns-clause-live : goal.returns-clause-live
returns-clause-live c = λ part run cs merge all is. (swapped_replaces part run cs merge all is).live

pub returns-clause-names : goal.returns-clause-names
returns-clause-names c = λ part run cs merge all is. (swapped_replaces part run cs merge all is).names

pub returns-clause-schema : goal.returns-clause-schema
returns-clause-schema c = λ part run cs merge all is. (swapped_replaces part run cs merge all is).schema

pub returns-clause-last : goal.returns-clause-last
returns-clause-last c = λ part run cs merge all is. (swapped_replaces part run cs merge all is).last

pub returns-clause-flush : goal.returns-clause-flush
returns-clause-flush c = flush_stays

pub returns-clause-one : goal.returns-clause-one
returns-clause-one c = one_merge
