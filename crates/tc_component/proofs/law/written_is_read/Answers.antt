use Rattle.std.proofs.Common.{ap, refl}
use Rattle.tc_store.specs.Gate.{is_open_file}
use Rattle.tc_component.specs.Spelling.{name_of}
use Rattle.tc_component.proofs.Files.{judged_spelled}
use Rattle.tc_component.proofs.Loaded.{written_holds, judged_named, judged_holds}
use Rattle.tc_component.proofs.law.written_is_read.Goals as goal

pub returns-clause-written : goal.returns-clause-written
returns-clause-written c = written_holds

pub returns-clause-open : goal.returns-clause-open
returns-clause-open c = λ bytes index holds. ap is_open_file holds.spelled

pub returns-clause-judged : goal.returns-clause-judged
returns-clause-judged c = λ bytes index holds. judged_spelled (name_of index.head) bytes index holds refl

pub returns-clause-found : goal.returns-clause-found
returns-clause-found c = judged_holds

pub returns-clause-named : goal.returns-clause-named
returns-clause-named c = judged_named
