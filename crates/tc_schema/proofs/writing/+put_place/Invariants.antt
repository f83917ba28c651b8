use Rattle.std.proofs.Common.{◌≡◌, ◌++◌, map, drop}
use Rattle.std.specs.List.{AllByRecursion}
use Rattle.tc_schema_model.specs.Counted.{IsCanonical}
use Rattle.tc_schema_model.specs.SchemaTree.{field_nodes_of}
use Rattle.tc_schema_model.specs.SchemaBytes.{fields_bytes}
use Rattle.tc_schema.specs.Places.{field_counted, fields_counted, most_names}
use Rattle.tc_schema.proofs.writing.+put_place.Given as goal

-- what is written and what is left are the whole, and what is left is canonical
abbrev pub invariant-put_objects-loop-field : goal.invariant-put_objects-loop-field
invariant-put_objects-loop-field l = record {
  left : l.out.items ++ fields_bytes (field_nodes_of (fields_counted (drop l.field-index l.fields))) ≡ l.initial.out.items ++ fields_bytes (field_nodes_of (fields_counted l.fields));
  canonical : AllByRecursion (λ f. IsCanonical most_names f.1) (map field_counted (drop l.field-index l.fields));
}
