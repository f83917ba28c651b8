use Rattle.tc_route.proofs.RenderedGathered.{rendered_gathered}
use Rattle.tc_route.proofs.laws.rendered_are_gathered.Goals as goal

pub returns : goal.returns
returns c = rendered_gathered
