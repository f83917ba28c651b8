use Rattle.tc_part_model.proofs.FlushedParts.{flush_keeps_store, flush_listed, flush_listed_moments}
use Rattle.tc_part_model.proofs.flushing.flushes_are_listed.Goals as goal

pub returns-clause-listed : goal.returns-clause-listed
returns-clause-listed c = flush_listed

pub returns-clause-stored : goal.returns-clause-stored
returns-clause-stored c = flush_keeps_store

pub returns-clause-moments : goal.returns-clause-moments
returns-clause-moments c = flush_listed_moments
