use Rattle.std.proofs.Common.{◌≡◌, map, take}
use Rattle.tc_schema.specs.Places.{field_counted}
use Rattle.tc_schema.proofs.place.+copy_place.Given as goal

abbrev pub invariant-copy_fields-loop-field : goal.invariant-copy_fields-loop-field
invariant-copy_fields-loop-field l = map field_counted l.copied.items ≡ map field_counted (take l.field-index l.fields)
