use Rattle.tc_part_model.proofs.SealedInputs.{flush_goes_on, makes_flush, newest_names_are, newest_schema_is, sealed_behind, sealed_counted}
use Rattle.tc_part_model.proofs.inputs.sealed_tables_can_flush.Goals as goal

pub returns-clause-names : goal.returns-clause-names
returns-clause-names c = newest_names_are

pub returns-clause-schema : goal.returns-clause-schema
returns-clause-schema c = newest_schema_is

pub returns-clause-behind : goal.returns-clause-behind
returns-clause-behind c = λ t p head kept is told some last same. sealed_behind t p is told kept some head last same

pub returns-clause-counted : goal.returns-clause-counted
returns-clause-counted c = λ t p kept is told some lawful. sealed_counted t p is told kept some c.lists_are_counted.ensures lawful

pub returns-clause-makes : goal.returns-clause-makes
returns-clause-makes c = makes_flush

pub returns-clause-extends : goal.returns-clause-extends
returns-clause-extends c = λ t p kept content is some makes. (flush_goes_on t p kept content is some makes).extends
