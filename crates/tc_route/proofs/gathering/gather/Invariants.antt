use Rattle.std.proofs.Common.{◌≡◌, map}
use Rattle.tc_route.specs.Gathered.{gathered_rendered}
use Rattle.tc_route.specs.Meaning.{rendered_in}
use Rattle.tc_route.proofs.gathering.gather.Given as goal

abbrev pub invariant-loop-part : goal.invariant-loop-part
invariant-loop-part l = rendered_in l.all.items ≡ gathered_rendered (map rendered_in l.yielded)
