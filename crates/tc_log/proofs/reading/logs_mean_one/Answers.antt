use Rattle.std.proofs.Common.{◌∙◌, Ok, sym, ap, subst}
use Rattle.std.specs.List.{AllByRecursion}
use Rattle.tc_log.specs.Writes.{IsWrite}
use Rattle.tc_log.proofs.Frames.{lawful_writes}
use Rattle.tc_store.specs.Gate.{is_open_file}
use Rattle.tc_log.proofs.Appended.{means_same}
use Rattle.tc_log.proofs.Logs.{judged_spelled}
use Rattle.tc_log.proofs.reading.logs_mean_one.Goals as goal

pub returns-clause-header : goal.returns-clause-header
returns-clause-header c = λ bytes head other writes others one two. (means_same bytes head other writes others one two).0

pub returns-clause-writes : goal.returns-clause-writes
returns-clause-writes c = λ bytes head other writes others one two. (means_same bytes head other writes others one two).1

pub returns-clause-judged : goal.returns-clause-judged
returns-clause-judged c = λ bytes head writes means. judged_spelled bytes head means.frames means.spells ∙ ap (λ all. Ok (head, all)) (sym means.all_are)

pub returns-clause-open : goal.returns-clause-open
returns-clause-open c = λ bytes head writes means. ap is_open_file means.spells.spelled

pub returns-clause-lawful : goal.returns-clause-lawful
returns-clause-lawful c = λ bytes head writes means. subst (AllByRecursion IsWrite) (sym means.all_are) (lawful_writes means.frames means.spells.each)
