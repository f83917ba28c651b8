use Rattle.tc_compact.proofs.Agreeing.{same_order, short_names, fewer_values}
use Rattle.tc_model.proofs.LearnedNames.{all_learned-known}
use Rattle.tc_compact.proofs.Room.{room_by_bytes}
use Rattle.tc_compact.proofs.law.names_agree.Goals as goal

pub returns-clause-order : goal.returns-clause-order
returns-clause-order c = same_order

pub returns-clause-known : goal.returns-clause-known
returns-clause-known c = all_learned-known

pub returns-clause-short : goal.returns-clause-short
returns-clause-short c = short_names

pub returns-clause-few : goal.returns-clause-few
returns-clause-few c = room_by_bytes

pub returns-clause-values : goal.returns-clause-values
returns-clause-values c = fewer_values
