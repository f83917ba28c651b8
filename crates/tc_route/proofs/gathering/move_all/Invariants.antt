use Rattle.std.proofs.Common.{◌≡◌, ◌++◌}
use Rattle.tc_route.proofs.gathering.move_all.Given as goal

abbrev pub invariant-loop-placed : goal.invariant-loop-placed
invariant-loop-placed l = l.merged.items ≡ l.initial.merged.items ++ l.yielded
