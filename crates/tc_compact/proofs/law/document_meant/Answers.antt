use Rattle.std.proofs.Common.{◌∙◌, ap}
use Rattle.tc_record.specs.Building.{document_read}
use Rattle.tc_record.proofs.Built.{document_again}
use Rattle.tc_compact.proofs.Meanings.{tokens_are, meant_holds}
use Rattle.tc_compact.proofs.law.document_meant.Goals as goal

pub returns-clause-read : goal.returns-clause-read
returns-clause-read c = λ r names d spells is. ap document_read (tokens_are names r d spells is) ∙ document_again d

pub returns-clause-lawful : goal.returns-clause-lawful
returns-clause-lawful c = λ r names d spells is. meant_holds names r d spells is
