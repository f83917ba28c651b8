use Rattle.std.proofs.Common.{◌<◌, ◌^◌, [], length, map, ap, ◌∙◌, subst, arith}
use Rattle.std.specs.List.{AllByRecursion}
use Rattle.std.proofs.lemmas.List.Elements.{All-from_recursion}
use Rattle.tc_model.specs.Tree.{array, items_of}
use Rattle.tc_model.specs.Dictionary.{all_learned}
use Rattle.tc_model.specs.ShapeNames.{names_of_items, names_of_documents}
use Rattle.tc_model.specs.TreeSize.{tree_size}
use Rattle.tc_value.specs.Meaning.{tree_of}
use Rattle.tc_model.proofs.NamesOfShapes.{room_within, names_of_shapes}
use Rattle.tc_schema_model.proofs.DocumentsTogether.{values_in-size}
use Rattle.schema_rows.proofs.kept.size_of_all.Goals as goal

pub returns-clause-values : goal.returns-clause-values
returns-clause-values c = λ path.
    omega (arith, values_in-size (map tree_of c.args.docs.now) path, c.in-Some.ensures.size, ap (λ shapes. tree_size (array (items_of shapes))) (c.of.ensures ∙ c.in_ok-shapes.ensures))

pub returns-clause-room : goal.returns-clause-room
returns-clause-room c =
    let docs = map tree_of c.args.docs.now in
    let names = ap (λ shapes. names_of_items (items_of shapes)) (c.of.ensures ∙ c.in_ok-shapes.ensures) ∙ names_of_shapes docs in
    subst (λ names. length (all_learned [] names) < 2 ^ 32) names (omega (arith, room_within [] (array (items_of c.of.result)), c.in-Some.ensures.size))

pub returns-clause-short : goal.returns-clause-short
returns-clause-short c =
    let docs = map tree_of c.args.docs.now in
    let names = ap (λ shapes. names_of_items (items_of shapes)) (c.of.ensures ∙ c.in_ok-shapes.ensures) ∙ names_of_shapes docs in
    All-from_recursion _ (names_of_documents docs) (subst (AllByRecursion (λ name. length name < 2 ^ 32)) names c.in-Some.ensures.short)
