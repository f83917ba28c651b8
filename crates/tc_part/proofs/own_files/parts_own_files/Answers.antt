use Rattle.tc_part.proofs.OwnNames.{own_same}
use Rattle.tc_part.proofs.OwnParts.{part_owns}
use Rattle.tc_part.proofs.own_files.parts_own_files.Goals as goal

pub returns-clause-part : goal.returns-clause-part
returns-clause-part c = part_owns

pub returns-clause-same : goal.returns-clause-same
returns-clause-same c = own_same
