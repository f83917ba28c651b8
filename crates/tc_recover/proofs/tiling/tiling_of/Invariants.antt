use Rattle.std.proofs.Common.{length}
use Rattle.tc_recover.specs.Placing.{IsPlaced}
use Rattle.tc_recover.proofs.tiling.tiling_of.Given as goal

abbrev pub invariant-loop-next : goal.invariant-loop-next
invariant-loop-next l = IsPlaced l.initial.intervals l.rest l.tiles.items

abbrev pub decreases-loop-next : goal.decreases-loop-next
decreases-loop-next l = length l.rest
