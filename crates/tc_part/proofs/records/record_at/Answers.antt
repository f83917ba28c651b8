use Rattle.std.proofs.Common.{List, ℕ, Err, subst}
use Rattle.tc_store.specs.Judging.{IsNoDamage}
use Rattle.tc_part.proofs.Spelled.{of_read_then}
use Rattle.tc_part.proofs.records.record_at.Goals as goal

pub returns-in-Err-clause-harmed : goal.returns-in-Err-clause-harmed
returns-in-Err-clause-harmed g c =
    of_read_then c.of_read.result _ _ (λ file at bytes is. absurd (subst (λ fault. IsNoDamage {X = List ℕ} (Err fault)) is.1 c.in-Err.ensures.no_damage)) c.of_read.ensures.harmed
