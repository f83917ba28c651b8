use Rattle.std.proofs.Common.{◌≡◌, ◌++◌, map, sym, ap, ◌∙◌}
use Rattle.std.proofs.lemmas.Result.{IfOk-weaker}
use Rattle.tc_model.specs.Tree.{object, members_of}
use Rattle.tc_value.specs.ShapeMeaning.{shape_tree, shape_member}
use Rattle.tc_model.proofs.TreeLists.{listed_members-members_of}
use Rattle.tc_schema_model.specs.SchemaText.{members_in}
use Rattle.tc_count.proofs.gathering.push_members.Goals as goal

pub returns-in-Object : goal.returns-in-Object
returns-in-Object c =
    let old = map shape_member c.args.members.now.items in
    let slice = map shape_member c.as_slice.result.now in
    let whole : shape_tree c.args.value.now ≡ object (members_of slice) = ap shape_tree c.in-Object.is ∙ ap (λ ms. object (members_of ms)) (sym c.as_slice.ensures.members) in
    IfOk-weaker c.push_each.result
    (λ _. map shape_member c.push_each.new.all.items ≡ old ++ slice)
    (λ _. map shape_member c.push_each.new.all.items ≡ old ++ members_in (shape_tree c.args.value.now))
    (λ _ is. is ∙ ap (λ members. old ++ members) (sym (ap members_in whole ∙ listed_members-members_of slice)))
    c.push_each.ensures
