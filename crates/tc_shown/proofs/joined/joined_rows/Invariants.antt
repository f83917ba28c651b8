use Rattle.std.proofs.Common.{◌≡◌, map}
use Rattle.tc_route.specs.Meaning.{rendered_in}
use Rattle.tc_shown.specs.Joined.{alone}
use Rattle.tc_shown.proofs.joined.joined_rows.Given as goal

abbrev pub invariant-loop-rows : goal.invariant-loop-rows
invariant-loop-rows l = map rendered_in l.parts.items ≡ map alone l.yielded
