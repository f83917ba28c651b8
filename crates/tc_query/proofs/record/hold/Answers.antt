use Rattle.tc_query.proofs.Harms.{no_harm}
use Rattle.tc_query.proofs.record.hold.Goals as goal

pub returns-in-Err-clause-unharmed : goal.returns-in-Err-clause-unharmed
returns-in-Err-clause-unharmed g c = no_harm c.in-Err.fault c.of_read.result c.file_name.result c.in-Err.ensures.no_damage c.of_read.ensures.harmed

pub returns-in-Ok-clause-watched : goal.returns-in-Ok-clause-watched
returns-in-Ok-clause-watched g c = record { faults = c.hold.ensures.counted.faults; cause = λ failed. absurd (cc) }
