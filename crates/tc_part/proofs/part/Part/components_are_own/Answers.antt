use Rattle.std.proofs.Common.{subst}
use Rattle.std.specs.Prelude.{All}
use Rattle.tc_component.specs.Loading.{IsAsJudged}
use Rattle.tc_part.proofs.part.Part.components_are_own.Goals as goal

pub returns : goal.returns
returns g c = rw (← c.self.view_is) (record {
  each = c.self.invariant.listed.each;
  judged = subst (All (IsAsJudged g.S.Frozen.Frozen.content)) c.as_slice.ensures.all c.look_over.ensures.judged;
})
