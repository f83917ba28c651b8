use Rattle.std.proofs.Common.{◌+◌, arith, refl, subst, take}
use Rattle.std.specs.Arc.{arc_value}
use Rattle.std.specs.Prelude.{All}
use Rattle.tc_component.specs.Columns.{IsFound}
use Rattle.tc_component.specs.Loading.{ComponentState}
use Rattle.tc_component.specs.Spelling.{IsIndex}
use Rattle.tc_component.specs.declared.found.Found.TheVariants.{Absent}
use Rattle.tc_list.specs.Lookups.{HaveNone}
use Rattle.tc_query.proofs.WalkSteps.{place_ahead, set_ahead, set_from, all_from, component_here, all_taken, taken_whole, long_walked, next_both}
use Rattle.tc_query.specs.Walking.{least_left, IsNext}
use Rattle.tc_query.proofs.walk.next_listed.Goals as goal

pub next_in-key-requires-clause-ahead : goal.next_in-key-requires-clause-ahead
next_in-key-requires-clause-ahead g c κs within =
    let l = c.loop-component in
    let here = component_here arc_value c.as_slice-component-items.result.now c.args.list.now l.at l.component-index c.component-item.result c.deref.result.now c.as_slice-component-items.ensures.all c.loop-component-test.true c.component-item.is c.deref.ensures l.invariant.at in
    place_ahead (least_left c.args.last) c.args.list.now l.places l.at c.deref.result.now l.invariant.ahead here

pub loop-component-preserved : goal.loop-component-preserved
loop-component-preserved g c =
    let l = c.loop-component in
    let low = least_left c.args.last in
    let cs = c.args.list.now in
    let i = l.component-index in
    let m = c.deref.result.now in
    let there = component_here arc_value c.as_slice-component-items.result.now cs l.at i c.component-item.result m c.as_slice-component-items.ensures.all c.loop-component-test.true c.component-item.is c.deref.ensures l.invariant.at in
    let here = component_here arc_value c.as_slice-component-items.result.now cs i i c.component-item.result m c.as_slice-component-items.ensures.all c.loop-component-test.true c.component-item.is c.deref.ensures refl in
    let least = c.lesser-least.ensures in
    record {
      at = omega (arith, l.invariant.at);
      ahead = set_ahead low cs l.places l.at c.next_in-key.new.place m l.invariant.ahead there c.next_in-key.ensures.ahead;
      from = set_from low cs l.places l.at c.next_in-key.new.place m there c.next_in-key.ensures.from l.invariant.from;
      next = next_both low l.least c.next_in-key.result c.lesser-least.result (HaveNone (take i cs)) (λ key. IsFound m.index.slots key Absent) (HaveNone (take (i + 1) cs))
          (λ key before none. all_taken (λ (n : ComponentState _). IsFound n.index.slots key Absent) cs i m here none before) least.from least.first least.second l.invariant.next c.next_in-key.ensures.next;
      lawful = all_taken (λ (n : ComponentState _). IsIndex n.index) cs i m here c.next_in-key.ensures.lawful l.invariant.lawful;
    }

pub returns-clause-from : goal.returns-clause-from
returns-clause-from g c =
    let l = c.loop-component in
    let end = long_walked arc_value c.as_slice-component-items.result.now c.args.list.now l.component-index c.as_slice-component-items.ensures.all c.loop-component-test.false in
    let same = l.invariant.at in
    all_from l.at (least_left c.args.last) c.args.list.now l.places (omega (arith, end, same)) l.invariant.from

pub returns-clause-next : goal.returns-clause-next
returns-clause-next g c =
    let l = c.loop-component in
    subst (λ cs. IsNext (least_left c.args.last) l.least (HaveNone cs))
    (taken_whole arc_value c.as_slice-component-items.result.now c.args.list.now l.component-index c.as_slice-component-items.ensures.all c.loop-component-test.false) l.invariant.next

pub returns-clause-lawful : goal.returns-clause-lawful
returns-clause-lawful g c =
    let l = c.loop-component in
    subst (All (λ (n : ComponentState _). IsIndex n.index))
    (taken_whole arc_value c.as_slice-component-items.result.now c.args.list.now l.component-index c.as_slice-component-items.ensures.all c.loop-component-test.false) l.invariant.lawful
