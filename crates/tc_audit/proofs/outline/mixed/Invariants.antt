use Rattle.std.proofs.Common.{length}
use Rattle.tc_audit.proofs.outline.mixed.Given as goal

abbrev pub decreases-loop-left : goal.decreases-loop-left
decreases-loop-left l = length l.left
