use Rattle.std.proofs.Common.{map, take}
use Rattle.std.specs.Prelude.{All}
use Rattle.std.specs.Arc.{arc_value}
use Rattle.tc_component.specs.Loading.{ComponentState, IsAsJudged}
use Rattle.tc_component.specs.Spelling.{IsIndex}
use Rattle.tc_part.proofs.starting.look_over.Given as goal

abbrev pub invariant-loop-component : goal.invariant-loop-component
invariant-loop-component g l = record {
  lawful : All (λ (c : ComponentState _). IsIndex c.index) (map arc_value (take l.component-index l.components));
  judged : All (IsAsJudged g.F.Frozen.content) (map arc_value (take l.component-index l.components));
}
