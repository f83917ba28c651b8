use Rattle.tc_store.proofs.StopLaws.{settled_image, fresh_image}
use Rattle.tc_store.proofs.laws.stops_follow_files.Goals as goal

pub returns-clause-settled : goal.returns-clause-settled
returns-clause-settled c = settled_image

pub returns-clause-fresh : goal.returns-clause-fresh
returns-clause-fresh c = fresh_image
