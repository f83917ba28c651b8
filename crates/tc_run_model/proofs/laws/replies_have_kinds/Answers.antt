use Rattle.tc_run_model.proofs.KindLaws.{replies_have_kinds}
use Rattle.tc_run_model.proofs.laws.replies_have_kinds.Goals as goal

pub returns : goal.returns
returns c = replies_have_kinds
