use Rattle.std.proofs.Common.{length}
use Rattle.tc_names.proofs.Found.{IsAhead}
use Rattle.tc_names.proofs.index.Index.find.Given as goal

abbrev pub invariant-loop-last : goal.invariant-loop-last
invariant-loop-last l = IsAhead (length l.self.heads.items) l.texts l.name l.last

abbrev pub decreases-loop-last : goal.decreases-loop-last
decreases-loop-last l = l.last
