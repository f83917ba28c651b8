use Rattle.tc_part_model.proofs.FailedParts.{fails_so, failed_stores, flush_returns, merge_returns}
use Rattle.tc_part_model.proofs.failing.failed_parts_keep_files.Goals as goal

pub returns-clause-fails : goal.returns-clause-fails
returns-clause-fails c = fails_so

pub returns-clause-stores : goal.returns-clause-stores
returns-clause-stores c = failed_stores

pub returns-clause-flush : goal.returns-clause-flush
returns-clause-flush c = flush_returns

pub returns-clause-merge : goal.returns-clause-merge
returns-clause-merge c = merge_returns

pub returns-clause-view : goal.returns-clause-view
returns-clause-view c = λ t part pairs frame has. record { failed = has.failed; tells = has.tells; files = has.files }
