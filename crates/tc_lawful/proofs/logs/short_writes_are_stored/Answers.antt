use Rattle.tc_lawful.proofs.StoredWrites.{stored_from, stored_once, writes_from}
use Rattle.tc_lawful.proofs.logs.short_writes_are_stored.Goals as goal

pub returns-clause-stored : goal.returns-clause-stored
returns-clause-stored c = λ read. (λ both. stored_from read both.0 both.1, writes_from read)

pub returns-clause-one : goal.returns-clause-one
returns-clause-one c = stored_once
