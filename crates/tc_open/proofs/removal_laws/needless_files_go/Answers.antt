use Rattle.tc_open.proofs.NeedlessFiles.{needless_go, needless_moments}
use Rattle.tc_open.proofs.removal_laws.needless_files_go.Goals as goal

pub returns-clause-opening : goal.returns-clause-opening
returns-clause-opening c = needless_go

pub returns-clause-moments : goal.returns-clause-moments
returns-clause-moments c = needless_moments
