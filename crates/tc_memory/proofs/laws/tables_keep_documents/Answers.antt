use Rattle.tc_memory.proofs.DocumentLaws.{documents_of, found_kept, ascends_kept}
use Rattle.tc_memory.proofs.laws.tables_keep_documents.Goals as goal

pub returns-clause-some : goal.returns-clause-some
returns-clause-some c = λ kept table. documents_of kept table.entries

pub returns-clause-found : goal.returns-clause-found
returns-clause-found c = found_kept

pub returns-clause-ascends : goal.returns-clause-ascends
returns-clause-ascends c = ascends_kept
