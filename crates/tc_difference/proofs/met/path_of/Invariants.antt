use Rattle.std.proofs.Common.{◌≡◌, ◌++◌, map, reverse, length}
use Rattle.tc_schema.specs.Paths.{step_meant}
use Rattle.tc_difference.specs.Comparing.{way_meant}
use Rattle.tc_difference.proofs.met.path_of.Given as goal

-- the steps so far, before those that are left
abbrev pub invariant-loop-way : goal.invariant-loop-way
invariant-loop-way l = map step_meant l.path.items ++ map (way_meant l.names) (reverse l.back.items) ≡ map (way_meant l.names) (reverse l.initial.back.items)

abbrev pub decreases-loop-way : goal.decreases-loop-way
decreases-loop-way l = length l.back.items
