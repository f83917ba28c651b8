use Rattle.tc_recover.proofs.LawfulPictures.{lawful_read}
use Rattle.tc_recover.proofs.OneTiling.{judged_one_way}
use Rattle.tc_recover.proofs.laws.lawful_files_are_read.Goals as goal

pub returns-clause-read : goal.returns-clause-read
returns-clause-read c = lawful_read c.components_are_contents.ensures.judged

pub returns-clause-one_way : goal.returns-clause-one_way
returns-clause-one_way c = judged_one_way
