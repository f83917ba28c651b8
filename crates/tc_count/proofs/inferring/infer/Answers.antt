use Rattle.std.proofs.Common.{◌≡◌, ◌<◌, ◌^◌, [], length, map, sym, ap, ◌∙◌, subst, arith}
use Rattle.std.specs.List.{AllByRecursion}
use Rattle.std.proofs.lemmas.List.Elements.{recursion_from_All}
use Rattle.tc_model.specs.Tree.{items_of}
use Rattle.tc_model.specs.Dictionary.{all_learned}
use Rattle.tc_model.specs.ShapeNames.{names_of_items, names_of_documents}
use Rattle.tc_schema_model.specs.Counted.{shows, IsCanonical}
use Rattle.tc_schema_model.specs.Occurrences.{items_occurrences}
use Rattle.tc_schema_model.proofs.FieldLaws.{canonical_below}
use Rattle.tc_value.specs.Meaning.{tree_of}
use Rattle.tc_value.specs.ShapeMeaning.{shape_tree}
use Rattle.tc_schema.specs.Places.{place_counted, most_names}
use Rattle.tc_count.specs.Counting.{IsZeroUnnumbered}
use Rattle.tc_model.proofs.NamesOfShapes.{names_of_shapes}
use Rattle.tc_schema_model.proofs.DocumentsTogether.{occur_in_shapes}
use Rattle.tc_count.proofs.Grouping.{zero-all_learned}
use Rattle.tc_count.proofs.inferring.infer.Goals as goal

-- the names of the shapes are those of the documents
listed : (c : goal.After-as_slice-2) → c.as_slice-2.result.now ≡ names_of_documents (map tree_of c.args.docs.now)
listed c =
    c.as_slice-2.ensures.value ∙ c.in_ok-listed.ensures
    ∙ ap (λ shapes. names_of_items (items_of shapes)) (ap (map shape_tree) c.as_slice.ensures.value ∙ c.in_ok-shapes.ensures)
    ∙ names_of_shapes (map tree_of c.args.docs.now)

pub dictionary_of-requires-clause-room : goal.dictionary_of-requires-clause-room
dictionary_of-requires-clause-room c = subst (λ names. length (all_learned [] names) < 2 ^ 32) (sym (listed c)) c.requires.room

pub dictionary_of-requires-clause-short : goal.dictionary_of-requires-clause-short
dictionary_of-requires-clause-short c = subst (AllByRecursion (λ name. length name < 2 ^ 32)) (sym (listed c)) (recursion_from_All _ _ c.requires.short)

pub root_of-requires : goal.root_of-requires
root_of-requires c =
    let xs = items_of (map shape_tree c.as_slice-3.result.now) in
    let names : c.in_ok-names.names ≡ all_learned [] (names_of_items xs) =
    c.in_ok-names.ensures ∙ ap (all_learned []) (c.as_slice-2.ensures.value ∙ c.in_ok-listed.ensures ∙ ap (λ shapes. names_of_items (items_of (map shape_tree shapes))) (c.as_slice.ensures.value ∙ sym c.as_slice-3.ensures.value)) in
    record { numbered = subst (λ names. IsZeroUnnumbered names (items_occurrences xs)) (sym names) (zero-all_learned [] xs) }

pub of-schema-requires : goal.of-schema-requires
of-schema-requires c = canonical_below (length c.in_ok-names.names) most_names (place_counted c.in_ok-root.root) (omega (arith, c.len-known.ensures.dictionary.few)) c.in_ok-root.ensures.canonical

pub returns-clause-names : goal.returns-clause-names
returns-clause-names c =
    c.in_ok-names.ensures ∙ ap (all_learned []) (c.as_slice-2.ensures.value ∙ c.in_ok-listed.ensures ∙ ap (λ shapes. names_of_items (items_of shapes)) (ap (map shape_tree) c.as_slice.ensures.value ∙ c.in_ok-shapes.ensures) ∙ names_of_shapes (map tree_of c.args.docs.now))

pub returns-clause-stands : goal.returns-clause-stands
returns-clause-stands c = record {
  canonical = subst (IsCanonical (length c.in_ok-names.names)) (sym c.of-schema.ensures) c.in_ok-root.ensures.canonical;
  distinct = c.len-known.ensures.dictionary.distinct;
  counts = λ path t.
      ap (λ d. shows c.in_ok-names.names d path t) c.of-schema.ensures
      ∙ c.in_ok-root.ensures.shown path t
      ∙ ap (λ shapes. items_occurrences (items_of shapes) path t) (ap (map shape_tree) c.as_slice-3.ensures.value ∙ c.in_ok-shapes.ensures)
      ∙ occur_in_shapes (map tree_of c.args.docs.now) path t;
}
