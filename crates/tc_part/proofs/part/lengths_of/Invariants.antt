use Rattle.std.proofs.Common.{◌≡◌, map, take}
use Rattle.std.specs.Arc.{arc_value}
use Rattle.tc_part.proofs.part.lengths_of.Given as goal

abbrev pub invariant-loop-component : goal.invariant-loop-component
invariant-loop-component g l = l.lengths.items ≡ map (λ c. g.F.Frozen.size c.file) (map arc_value (take l.component-index l.components))
