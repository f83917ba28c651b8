use Rattle.tc_record.proofs.OneDocument.{documents_are_one}
use Rattle.tc_record.proofs.law.one_document.Goals as goal

pub returns : goal.returns
returns c = documents_are_one
