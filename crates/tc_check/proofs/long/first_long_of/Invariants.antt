use Rattle.std.proofs.Common.{length}
use Rattle.tc_check.proofs.LongRecords.{AreLeft}
use Rattle.tc_check.proofs.long.first_long_of.Given as goal

abbrev pub invariant-loop-write : goal.invariant-loop-write
invariant-loop-write l = AreLeft l.fn.writes l.rest

abbrev pub decreases-loop-write : goal.decreases-loop-write
decreases-loop-write l = length l.rest
