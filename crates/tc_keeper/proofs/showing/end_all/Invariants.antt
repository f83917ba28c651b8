use Rattle.std.proofs.Common.{◌≡◌, ◌+◌, length}
use Rattle.tc_keeper.proofs.showing.end_all.Given as goal

-- so many were ended
abbrev pub invariant-loop : goal.invariant-loop
invariant-loop g l = length l.shown.items + l.counter ≡ length l.initial.shown.items
