use Rattle.std.proofs.Common.{◌∙◌, sym}
use Rattle.tc_part.proofs.part.Part.stage_write.Goals as goal

pub returns-in-Upsert-clause-answered : goal.returns-in-Upsert-clause-answered
returns-in-Upsert-clause-answered g c = λ p w is may kept. c.stage_upsert.ensures.answered p w is may (sym c.in-Upsert.is ∙ kept)
