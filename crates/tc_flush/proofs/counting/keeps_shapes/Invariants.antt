use Rattle.std.proofs.Common.{◌≡◌, length}
use Rattle.tc_flush.specs.Recounting.{shapes_kept}
use Rattle.tc_flush.proofs.counting.keeps_shapes.Given as goal

abbrev pub invariant-loop-entry : goal.invariant-loop-entry
invariant-loop-entry l = shapes_kept l.entries ≡ shapes_kept l.sealed

abbrev pub decreases-loop-entry : goal.decreases-loop-entry
decreases-loop-entry l = length l.entries
