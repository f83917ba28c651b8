use Rattle.std.proofs.Common.{◌≡◌, ◌<◌, ◌++◌, false, length, map, drop}
use Rattle.std.specs.List.{AllByRecursion}
use Rattle.serde_json.specs.Written.{members_text}
use Rattle.tc_schema_model.specs.SchemaTree.{field_nodes_of}
use Rattle.tc_schema_model.specs.SchemaText.{fields_text}
use Rattle.tc_schema.specs.Places.{field_counted, fields_counted}
use Rattle.tc_schema.specs.Ordered.{members_in_order}
use Rattle.tc_schema.proofs.text.+place_text.Given as goal

-- what is written and what is left are the whole, and each place that is left has a field
abbrev pub invariant-put_fields-loop-place : goal.invariant-put_fields-loop-place
invariant-put_fields-loop-place l = record {
  left : l.out.items ++ members_text l.later (members_in_order l.names (map field_counted l.fields) (drop l.place-index l.place-items)) ≡ l.initial.out.items ++ members_text false (fields_text l.names (field_nodes_of (fields_counted l.fields)));
  inside : AllByRecursion (λ place. place < length l.fields) (drop l.place-index l.place-items);
}
