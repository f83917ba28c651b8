use Rattle.std.proofs.Common.{◌∙◌, sym}
use Rattle.tc_schema.proofs.ReadingSteps.{kind_missing}
use Rattle.tc_schema.proofs.reading.place_of.Goals as goal

pub returns-then-left-one_if_some : goal.returns-then-left-one_if_some
returns-then-left-one_if_some c = λ refused.
    kind_missing c.args.left c.args.objects _ _ _ c.args.rest.now (λ same. c.if-left-one_if_some.true (same ∙ sym c.one_if_some.ensures.counted)) c.requires
