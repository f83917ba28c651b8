use Rattle.tc_files.proofs.NameLemmas.{apart}
use Rattle.tc_files.proofs.laws.names_are_apart.Goals as goal

pub returns : goal.returns
returns c = apart
