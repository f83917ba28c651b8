use Rattle.std.proofs.Common.{refl, inl}
use Rattle.tc_audit.proofs.auditing.judge_counts.Goals as goal

pub returns-then-is_full-clause-wrong : goal.returns-then-is_full-clause-wrong
returns-then-is_full-clause-wrong g c = (refl, inl (c.is_full.ensures.0 c.if-is_full.true))
