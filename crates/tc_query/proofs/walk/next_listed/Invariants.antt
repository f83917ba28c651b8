use Rattle.std.proofs.Common.{◌≡◌, take}
use Rattle.std.specs.Prelude.{All}
use Rattle.tc_component.specs.Spelling.{IsIndex}
use Rattle.tc_list.specs.Lookups.{HaveNone}
use Rattle.tc_query.proofs.WalkSteps.{AreFromUpTo}
use Rattle.tc_query.specs.Walking.{least_left, AreAhead, IsNext}
use Rattle.tc_query.proofs.walk.next_listed.Given as goal

abbrev pub invariant-loop-component : goal.invariant-loop-component
invariant-loop-component g l = record {
  at : l.at ≡ l.component-index;
  ahead : AreAhead (least_left l.last) l.list l.places;
  from : AreFromUpTo l.at (least_left l.last) l.list l.places;
  next : IsNext (least_left l.last) l.least (HaveNone (take l.component-index l.list));
  lawful : All (λ c. IsIndex c.index) (take l.component-index l.list);
}
