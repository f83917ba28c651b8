use Rattle.std.proofs.Common.{◌≡◌, ◌+◌, ◌-◌, ◌*◌, length, map}
use Rattle.tc_model.specs.Tree.{members_of}
use Rattle.tc_model.specs.TreeSize.{trees_size, labelled_size}
use Rattle.tc_schema_model.specs.Counted.{AreFieldsCanonical}
use Rattle.tc_schema_model.specs.Occurrences.{members_occurrences}
use Rattle.tc_schema.specs.Places.{fields_counted}
use Rattle.tc_value.specs.ShapeMeaning.{shape_tree, shape_member}
use Rattle.tc_count.specs.Counting.{FieldsShow}
use Rattle.tc_count.proofs.counting.+counting.Given as goal

abbrev pub decreases-place_of : goal.decreases-place_of
decreases-place_of l = 3 * trees_size (map shape_tree l.values.now)

abbrev pub decreases-item_of : goal.decreases-item_of
decreases-item_of l = 3 * trees_size (map shape_tree l.items.now) + 1

abbrev pub decreases-fields_of : goal.decreases-fields_of
decreases-fields_of l = 3 * labelled_size (map shape_member l.members.now) + 2

abbrev pub decreases-put_first : goal.decreases-put_first
decreases-put_first l = 3 * labelled_size (map shape_member l.members.now) + 1

-- the fields of the numbers that were done, which are the greatest
abbrev pub invariant-fields_of-loop-done : goal.invariant-fields_of-loop-done
invariant-fields_of-loop-done l = record {
  count : l.count ≡ length l.names;
  shown : FieldsShow l.names (l.count - l.done) (fields_counted l.fields.items) (members_occurrences (members_of (map shape_member l.members)));
  canonical : AreFieldsCanonical (length l.names) (l.count - l.done) (fields_counted l.fields.items);
}
