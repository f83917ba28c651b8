use Rattle.tc_machine.proofs.FreeNames.{none_there, next_log_is_free, flush_is_free, merge_is_free}
use Rattle.tc_machine.proofs.files.names_are_free.Goals as goal

pub returns-clause-absent : goal.returns-clause-absent
returns-clause-absent c = none_there

pub returns-clause-next_log : goal.returns-clause-next_log
returns-clause-next_log c = next_log_is_free

pub returns-clause-flush : goal.returns-clause-flush
returns-clause-flush c = flush_is_free

pub returns-clause-merge : goal.returns-clause-merge
returns-clause-merge c = λ part s run content kept running sound. merge_is_free part s kept running sound run content
