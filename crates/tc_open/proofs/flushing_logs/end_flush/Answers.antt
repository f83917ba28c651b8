use Rattle.std.proofs.Common.{refl}
use Rattle.std.proofs.lemmas.Result.{on_ok_weaker}
use Rattle.tc_open.proofs.flushing_logs.end_flush.Goals as goal

pub returns-clause-partition : goal.returns-clause-partition
returns-clause-partition g c = on_ok_weaker c.list_flush-outcome.result (λ goes. goes c.args.head.number c.args.head.count refl refl) c.list_flush-outcome.ensures.partition
