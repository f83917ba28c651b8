use Rattle.std.proofs.Common.{drop}
use Rattle.tc_route.specs.Meaning.{rendered_in}
use Rattle.tc_route.proofs.OrderedMerge.{AscendFrom}
use Rattle.tc_route.proofs.gathering.ascends.Given as goal

abbrev pub invariant-loop-placed : goal.invariant-loop-placed
invariant-loop-placed l = AscendFrom l.least (rendered_in (drop l.placed-index l.replies)) → AscendFrom 0 (rendered_in l.replies)
