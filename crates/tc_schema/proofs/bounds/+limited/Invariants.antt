use Rattle.std.proofs.Common.{◌≡◌, drop}
use Rattle.tc_schema_model.specs.Bounds.{fields_have_numbers_below}
use Rattle.tc_schema.specs.Places.{fields_counted}
use Rattle.tc_schema.proofs.bounds.+limited.Given as goal

abbrev pub invariant-are_fields_below-loop-field : goal.invariant-are_fields_below-loop-field
invariant-are_fields_below-loop-field l = fields_have_numbers_below l.limit (fields_counted (drop l.field-index l.fields)) ≡ fields_have_numbers_below l.limit (fields_counted l.fields)
