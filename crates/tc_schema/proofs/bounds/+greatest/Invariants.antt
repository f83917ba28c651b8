use Rattle.std.proofs.Common.{◌≡◌, max, drop}
use Rattle.tc_schema_model.specs.Bounds.{greatest_of_fields}
use Rattle.tc_schema.specs.Places.{fields_counted}
use Rattle.tc_schema.proofs.bounds.+greatest.Given as goal

abbrev pub invariant-greatest_in-loop-field : goal.invariant-greatest_in-loop-field
invariant-greatest_in-loop-field l = max l.greatest (greatest_of_fields (fields_counted (drop l.field-index l.fields))) ≡ greatest_of_fields (fields_counted l.fields)
