use Rattle.std.proofs.Common.{◌≡◌, ℕ, drop}
use Rattle.tc_schema_model.specs.Counted.{AreFieldsCanonical}
use Rattle.tc_schema.specs.Places.{fields_counted, most_names}
use Rattle.tc_audit.specs.Times.{fields_with}
use Rattle.tc_audit.proofs.times.+times.Given as goal

-- the fields that are left, added from here on, are all fields added
abbrev pub invariant-add_fields-loop-one : goal.invariant-add_fields-loop-one
invariant-add_fields-loop-one l = record {
  left : fields_with l.times (fields_counted (drop l.one-index l.ones)) (fields_counted l.fields.items) ≡ fields_with l.times (fields_counted l.ones) (fields_counted l.initial.fields.items);
  ones : (low : ℕ) × AreFieldsCanonical most_names low (fields_counted (drop l.one-index l.ones));
  canonical : AreFieldsCanonical most_names 0 (fields_counted l.fields.items);
}
