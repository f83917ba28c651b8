use Rattle.tc_run_model.proofs.WorldLaws.{after_all_stands, first_stands}
use Rattle.tc_run_model.proofs.laws.worlds_stand_on_writes.Goals as goal

pub returns-clause-first : goal.returns-clause-first
returns-clause-first c = first_stands

pub returns-clause-goes_on : goal.returns-clause-goes_on
returns-clause-goes_on c = after_all_stands
