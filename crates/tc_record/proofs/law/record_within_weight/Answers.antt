use Rattle.tc_record.proofs.Weights.{record_within}
use Rattle.tc_record.proofs.law.record_within_weight.Goals as goal

pub returns : goal.returns
returns c = record_within
