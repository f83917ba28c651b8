use Rattle.std.proofs.Common.{length}
use Rattle.tc_memory.specs.Table.{Table}
use Rattle.tc_query.specs.Walking.{least_left, entries_ahead, IsAhead}
use Rattle.tc_query.proofs.ahead.Ahead.next.Given as goal

abbrev pub invariant-loop-self : goal.invariant-loop-self
invariant-loop-self l = (t : Table) → IsAhead (least_left l.last) t (entries_ahead l.fn.self) → IsAhead (least_left l.last) t (entries_ahead l.self)

abbrev pub decreases-loop-self : goal.decreases-loop-self
decreases-loop-self l = length (entries_ahead l.self)
