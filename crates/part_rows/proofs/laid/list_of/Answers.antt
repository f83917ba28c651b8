use Rattle.std.proofs.Common.{rules, ◌≡◌, ◌∙◌, ◌+◌, List, ◌∷◌, [], ap, sym}
use Rattle.std.specs.Arc.{arc_value}
use Rattle.tc_component.specs.Loading.{ComponentState}
use Rattle.tc_component.specs.Spelling.{name_of}
use Rattle.tc_list.specs.Intervals.{last_of}
use Rattle.tc_store.specs.declared.file_name.FileName.TheVariants.{Component}
use Rattle.tc_store.specs.declared.mem.frozen.MemFrozen.{MemFrozen}
use Rattle.tc_store.specs.Memory.Frozen.{frozen_name}
use Rattle.part_rows.proofs.LaidLists.{loaded, first_is, one_listed}
use Rattle.part_rows.proofs.laid.list_of.Goals as goal

pub push-requires-after_bounds : goal.push-requires-after_bounds
push-requires-after_bounds c κs =
    let component = c.in_ok-component.component in
    let name : Component 1 c.args.to ≡ name_of component.index.head = (loaded _ c.load.result component c.in_ok-component.ensures.value c.load.ensures.lawful).1 in
    let held : arc_value c.in_ok-ok.field-0 ≡ component = search rules in
    ap (λ (x : ComponentState MemFrozen). x.index.head.from) held ∙ first_is component.index.head c.args.to name ∙ ap (λ (cs : List (ComponentState MemFrozen)). last_of cs + 1) (sym c.new-list.ensures)

pub returns-clause-one : goal.returns-clause-one
returns-clause-one c =
    let component = c.in_ok-component.component in
    let pushed : c.push.new.self ≡ component ∷ [] = search rules in
    let name : Component 1 c.args.to ≡ name_of component.index.head = (loaded _ c.load.result component c.in_ok-component.ensures.value c.load.ensures.lawful).1 in
    let file : component.file ≡ c.args.file = loaded _ c.load.result component c.in_ok-component.ensures.value c.load.ensures.file in
    (component, pushed, name, ap frozen_name file ∙ c.requires.name)

pub returns-clause-listed : goal.returns-clause-listed
returns-clause-listed c =
    one_listed c.new-list.result c.push.new.self c.in_ok-component.component (search rules) (search rules) (λ number count. c.goes_behind.ensures.listed number count (search rules)) (search rules) (search rules)
