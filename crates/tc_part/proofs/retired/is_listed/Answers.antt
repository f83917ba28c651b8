use Rattle.std.proofs.Common.{◌∙◌, sym, ap}
use Rattle.std.specs.Arc.{arc_value}
use Rattle.tc_component.specs.Loading.{ComponentState}
use Rattle.tc_component.specs.Spelling.{name_of}
use Rattle.tc_store.specs.Disk.{same_name}
use Rattle.tc_part.proofs.SweptFiles.{none_more, one_named}
use Rattle.tc_part.proofs.retired.is_listed.Goals as goal

pub loop-component-preserved : goal.loop-component-preserved
loop-component-preserved g c =
    let head = c.head.ensures ∙ ap (λ (m : ComponentState _). m.index.head) c.deref.ensures in
    none_more arc_value (name_of c.args.head) c.args.list.now c.loop-component.component-index c.component-item.result c.loop-component-test.true c.component-item.is
    (ap (λ h. same_name (name_of h) (name_of c.args.head)) (sym head) ∙ sym c.is_same.ensures ∙ c.if-is_same.false) c.loop-component.invariant

pub returns-then-is_same : goal.returns-then-is_same
returns-then-is_same g c =
    let head = c.head.ensures ∙ ap (λ (m : ComponentState _). m.index.head) c.deref.ensures in
    sym (one_named arc_value (name_of c.args.head) c.args.list.now c.loop-component.component-index c.component-item.result c.loop-component-test.true c.component-item.is
    (ap (λ h. same_name (name_of h) (name_of c.args.head)) (sym head) ∙ sym c.is_same.ensures ∙ c.if-is_same.true))
