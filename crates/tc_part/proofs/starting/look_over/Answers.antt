use Rattle.std.proofs.Common.{map, subst}
use Rattle.std.proofs.lemmas.List.{take_all}
use Rattle.std.specs.Arc.{arc_value}
use Rattle.std.specs.Prelude.{All}
use Rattle.tc_component.specs.Loading.{ComponentState, IsAsJudged}
use Rattle.tc_component.specs.Spelling.{IsIndex}
use Rattle.tc_part.proofs.OwnOutcomes.{all_more}
use Rattle.tc_part.proofs.starting.look_over.Goals as goal

pub loop-component-preserved : goal.loop-component-preserved
loop-component-preserved g c =
    let l = c.loop-component in
    let seen = c.file_len-lawful.ensures in
    record {
      lawful = all_more arc_value (λ (m : ComponentState _). IsIndex m.index) c.args.components.now l.component-index c.component-item.result c.loop-component-test.true c.component-item.is (subst (λ (m : ComponentState _). IsIndex m.index) c.deref.ensures seen.lawful)
          l.invariant.lawful;
      judged = all_more arc_value (IsAsJudged g.F.Frozen.content) c.args.components.now l.component-index c.component-item.result c.loop-component-test.true c.component-item.is (subst (IsAsJudged g.F.Frozen.content) c.deref.ensures seen.judged) l.invariant.judged;
    }

pub returns-clause-lawful : goal.returns-clause-lawful
returns-clause-lawful g c =
    subst (λ xs. All (λ (m : ComponentState _). IsIndex m.index) (map arc_value xs)) (take_all c.loop-component.component-index c.args.components.now c.loop-component-test.false) c.loop-component.invariant.lawful

pub returns-clause-judged : goal.returns-clause-judged
returns-clause-judged g c =
    subst (λ xs. All (IsAsJudged g.F.Frozen.content) (map arc_value xs)) (take_all c.loop-component.component-index c.args.components.now c.loop-component-test.false) c.loop-component.invariant.judged
