use Rattle.std.proofs.lemmas.Result.{IfErr-weaker, on_ok_weaker}
use Rattle.tc_server.proofs.SessionLemmas.{asks_oversized}
use Rattle.tc_server.proofs.session.Session+Keeper+S+P.take_oversized.Goals as goal

pub take-requires-clause-light : goal.take-requires-clause-light
take-requires-clause-light g c κs within = rw c.refused.ensures tt

pub returns-clause-ok : goal.returns-clause-ok
returns-clause-ok g c = on_ok_weaker c.take.result (λ takes line long. takes line (rw c.refused.ensures (asks_oversized line long))) c.take.ensures.ok

pub returns-clause-fault : goal.returns-clause-fault
returns-clause-fault g c = IfErr-weaker c.take.result _ _ (λ f fails line long. fails line (rw c.refused.ensures (asks_oversized line long))) c.take.ensures.fault
