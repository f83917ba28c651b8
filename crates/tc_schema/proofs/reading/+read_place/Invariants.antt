use Rattle.std.proofs.Common.{◌≡◌, ◌+◌, ◌-◌, ◌*◌, map, option_map}
use Rattle.tc_schema.specs.Places.{field_counted}
use Rattle.tc_schema.specs.Reading.{fields_at, place_at}
use Rattle.tc_schema.proofs.ReadingSteps.{onto}
use Rattle.tc_schema.proofs.reading.+read_place.Given as goal

abbrev pub decreases-read_place : goal.decreases-read_place
decreases-read_place l = 6 * l.levels

abbrev pub decreases-read_union : goal.decreases-read_union
decreases-read_union l = 6 * l.levels + 5

abbrev pub decreases-read_kinds : goal.decreases-read_kinds
decreases-read_kinds l = 6 * l.levels + 4

abbrev pub decreases-read_array : goal.decreases-read_array
decreases-read_array l = 6 * l.levels + 3

abbrev pub decreases-read_object : goal.decreases-read_object
decreases-read_object l = 6 * l.levels + 3

abbrev pub decreases-read_item : goal.decreases-read_item
decreases-read_item l = 6 * l.levels + 2

abbrev pub decreases-read_fields : goal.decreases-read_fields
decreases-read_fields l = 6 * l.levels + 2

-- the fields so far before those that are read from here on are all
abbrev pub invariant-read_fields-loop-done : goal.invariant-read_fields-loop-done
invariant-read_fields-loop-done l =
    option_map (onto (map field_counted l.fields.items)) (fields_at (place_at l.names l.levels) l.names (l.many - l.done) l.low l.rest) ≡ fields_at (place_at l.names l.levels) l.names l.many 0 l.bytes
