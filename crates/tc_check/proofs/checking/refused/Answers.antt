use Rattle.std.proofs.Common.{Err, subst}
use Rattle.tc_recover.specs.Opening.{DiskJudged}
use Rattle.tc_check.specs.Answers.{IsAnswer}
use Rattle.tc_check.proofs.CheckedDisks.{damage_refused}
use Rattle.tc_check.proofs.checking.refused.Goals as goal

pub returns-in-Damaged-clause-answered : goal.returns-in-Damaged-clause-answered
returns-in-Damaged-clause-answered c = λ part disk is. damage_refused part disk c.in-Damaged.damage (subst (λ cause. IsAnswer cause (λ refusal. DiskJudged part disk (Err refusal))) c.in-Damaged.is is)
