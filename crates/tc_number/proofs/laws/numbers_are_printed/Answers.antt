use Rattle.tc_number.proofs.PrintedLemmas.{are_printed}
use Rattle.tc_number.proofs.laws.numbers_are_printed.Goals as goal

pub returns : goal.returns
returns c = are_printed
