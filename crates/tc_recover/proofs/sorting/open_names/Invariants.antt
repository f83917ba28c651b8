use Rattle.std.proofs.Common.{◌≡◌, ◌++◌, length}
use Rattle.tc_recover.specs.Sorting.{open_names as names_of}
use Rattle.tc_recover.proofs.sorting.open_names.Given as goal

abbrev pub invariant-loop-file : goal.invariant-loop-file
invariant-loop-file g l = l.names.items ++ names_of l.rest ≡ names_of l.fn.files

abbrev pub decreases-loop-file : goal.decreases-loop-file
decreases-loop-file g l = length l.rest
