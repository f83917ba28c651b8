use Rattle.std.proofs.Common.{◌+◌, ◌*◌}
use Rattle.tc_schema.specs.Places.{place_counted, below_counted, fields_counted}
use Rattle.tc_difference.proofs.PlaceSizes.{places_below, item_places, field_places}
use Rattle.tc_difference.proofs.FieldsWalk.{Walked}
use Rattle.tc_difference.proofs.comparing.+comparing.Given as goal

abbrev pub decreases-compare : goal.decreases-compare
decreases-compare l = 4 * (places_below (place_counted l.kept.now) + places_below (place_counted l.counted.now)) + 1

abbrev pub decreases-compare_items : goal.decreases-compare_items
decreases-compare_items l = 4 * (item_places (below_counted l.kept.now) + item_places (below_counted l.counted.now))

abbrev pub decreases-compare_fields : goal.decreases-compare_fields
decreases-compare_fields l = 4 * (field_places (fields_counted l.kept.now) + field_places (fields_counted l.counted.now))

abbrev pub decreases-lesser_of : goal.decreases-lesser_of
decreases-lesser_of l = 4 * (places_below (place_counted l.kept.now) + places_below (place_counted l.counted.now)) + 2

abbrev pub invariant-compare_fields-loop-number : goal.invariant-compare_fields-loop-number
invariant-compare_fields-loop-number l = Walked l.names (fields_counted l.kept) (fields_counted l.counted) (fields_counted l.ones) (fields_counted l.others) l.least

abbrev pub decreases-compare_fields-loop-number : goal.decreases-compare_fields-loop-number
decreases-compare_fields-loop-number l = field_places (fields_counted l.ones) + field_places (fields_counted l.others)
