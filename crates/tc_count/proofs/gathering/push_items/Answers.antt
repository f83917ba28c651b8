use Rattle.std.proofs.Common.{◌≡◌, ◌++◌, map, sym, ap, ◌∙◌}
use Rattle.std.proofs.lemmas.Result.{IfOk-weaker}
use Rattle.tc_model.specs.Tree.{array, items_of, listed_items}
use Rattle.tc_value.specs.ShapeMeaning.{shape_tree}
use Rattle.tc_model.proofs.TreeLists.{same_array}
use Rattle.tc_schema_model.specs.SchemaText.{items_in}
use Rattle.tc_count.proofs.GatheredValues.{again_items}
use Rattle.tc_count.proofs.gathering.push_items.Goals as goal

pub returns-in-Array : goal.returns-in-Array
returns-in-Array c =
    let old = map shape_tree c.args.items.now.items in
    let slice = map shape_tree c.as_slice.result.now in
    let whole : shape_tree c.args.value.now ≡ array (items_of slice) = ap shape_tree c.in-Array.is ∙ ap (λ xs. array (items_of xs)) (sym c.as_slice.ensures) in
    let listed : listed_items (items_of slice) ≡ slice = same_array (listed_items (items_of slice)) slice (ap array (again_items (items_of slice))) in
    IfOk-weaker c.push_shapes.result
    (λ _. map shape_tree c.push_shapes.new.all.items ≡ old ++ slice)
    (λ _. map shape_tree c.push_shapes.new.all.items ≡ old ++ items_in (shape_tree c.args.value.now))
    (λ _ is. is ∙ ap (λ items. old ++ items) (sym (ap items_in whole ∙ listed)))
    c.push_shapes.ensures
