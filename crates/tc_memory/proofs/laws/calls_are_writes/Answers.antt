use Rattle.tc_memory.proofs.DocumentLaws.{IsTableOf-upserted, IsTableOf-deleted}
use Rattle.tc_memory.proofs.laws.calls_are_writes.Goals as goal

pub returns-clause-upserted : goal.returns-clause-upserted
returns-clause-upserted c = IsTableOf-upserted

pub returns-clause-deleted : goal.returns-clause-deleted
returns-clause-deleted c = IsTableOf-deleted
