use Rattle.std.proofs.Common.{◌≡◌, map, take}
use Rattle.std.specs.Arc.{arc_value}
use Rattle.std.specs.Prelude.{All}
use Rattle.tc_component.specs.Spelling.{IsIndex}
use Rattle.tc_merge.specs.Inputs.{starts}
use Rattle.tc_merge.proofs.writing.inputs_of.Given as goal

abbrev pub invariant-loop-component : goal.invariant-loop-component
invariant-loop-component g l = record {
  inputs : l.inputs.items ≡ map starts (map arc_value (take l.component-index l.run));
  lawful : All (λ c. IsIndex c.index) (map arc_value (take l.component-index l.run));
}
