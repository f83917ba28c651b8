use Rattle.std.proofs.Common.{◌≡◌, ◌++◌, length}
use Rattle.tc_recover.specs.Sorting.{intervals_of as components_of}
use Rattle.tc_recover.proofs.sorting.intervals_of.Given as goal

abbrev pub invariant-loop-name : goal.invariant-loop-name
invariant-loop-name l = l.intervals.items ++ components_of l.rest ≡ components_of l.fn.names

abbrev pub decreases-loop-name : goal.decreases-loop-name
decreases-loop-name l = length l.rest
