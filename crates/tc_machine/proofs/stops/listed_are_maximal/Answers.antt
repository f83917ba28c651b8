use Rattle.tc_machine.proofs.Maximal.{maximal_is_listed, listed_is_maximal}
use Rattle.tc_machine.proofs.stops.listed_are_maximal.Goals as goal

pub returns-clause-listed : goal.returns-clause-listed
returns-clause-listed c = maximal_is_listed

pub returns-clause-maximal : goal.returns-clause-maximal
returns-clause-maximal c = listed_is_maximal
