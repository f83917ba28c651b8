use Rattle.std.proofs.Common.{◌≡◌, length}
use Rattle.tc_model.specs.Keyed.{Keyed, Ascends}
use Rattle.tc_request_model.specs.Rendered.{Rendered}
use Rattle.tc_route.specs.Meaning.{rendered_in}
use Rattle.tc_route.specs.Merging.{merging}
use Rattle.tc_route.proofs.OrderedMerge.{AreFrom}
use Rattle.tc_route.proofs.gathering.move_below.Given as goal

abbrev pub invariant-loop-placed : goal.invariant-loop-placed
invariant-loop-placed l =
    Ascends (rendered_in l.left.items)
    × ((more : Keyed Rendered) → AreFrom l.limit more → merging l.merged.items l.left.items more ≡ merging l.initial.merged.items l.initial.left.items more)

abbrev pub decreases-loop-placed : goal.decreases-loop-placed
decreases-loop-placed l = length l.left.items
