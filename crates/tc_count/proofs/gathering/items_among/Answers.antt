use Rattle.std.proofs.Common.{◌+◌, ◌++◌, map, drop, sym, ap, ◌∙◌, append_assoc}
use Rattle.tc_value.specs.ShapeMeaning.{shape_tree}
use Rattle.tc_count.specs.Gathered.{items_among}
use Rattle.tc_schema_model.specs.SchemaText.{items_in}
use Rattle.tc_count.proofs.Walks.{map_from}
use Rattle.tc_count.proofs.gathering.items_among.Goals as goal

pub loop-value-preserved : goal.loop-value-preserved
loop-value-preserved c =
    let l = c.loop-value in
    let x = c.value-item.result in
    let old = map shape_tree l.items.items in
    let rest = items_among (map shape_tree (drop (l.value-index + 1) c.args.values.now)) in
    let here = map_from shape_tree c.args.values.now l.value-index x c.loop-value-test.true c.value-item.is in
    ap (λ items. items ++ rest) c.in_ok-push_items.ensures ∙ append_assoc old (items_in (shape_tree x)) rest ∙ ap (λ ss. old ++ items_among ss) (sym here) ∙ l.invariant
