use Rattle.std.proofs.Common.{◌∙◌, ap, subst}
use Rattle.std.specs.Arc.{arc_value}
use Rattle.tc_component.specs.Spelling.{IsIndex}
use Rattle.tc_merge.specs.Inputs.{starts}
use Rattle.tc_merge.proofs.LastOfRun.{all_step, input_step}
use Rattle.tc_merge.proofs.writing.inputs_of.Goals as goal

pub loop-component-preserved : goal.loop-component-preserved
loop-component-preserved g c =
    let l = c.loop-component in
    let a = c.component-item.result in
    record {
      inputs = c.in_ok-push.ensures.items ∙ input_step arc_value c.args.run.now l.component-index a l.inputs.items c.of.result c.loop-component-test.true c.component-item.is (c.of.ensures ∙ ap starts c.in_ok-try_clone.ensures) l.invariant.inputs;
      lawful = all_step arc_value c.args.run.now (λ m. IsIndex m.index) l.component-index a c.loop-component-test.true c.component-item.is (subst (λ m. IsIndex m.index) c.deref.ensures c.file_len-lawful.ensures.lawful) l.invariant.lawful;
    }
