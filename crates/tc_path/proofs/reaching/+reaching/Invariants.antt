use Rattle.std.proofs.Common.{◌≡◌, ◌≤◌, length, map, slice_get, ◌+◌, ◌*◌}
use Rattle.tc_model.specs.Document.{member_at}
use Rattle.tc_value.specs.Meaning.{tree_of}
use Rattle.tc_command.specs.Asks.{hop_of}
use Rattle.tc_record.specs.Building.{outer}
use Rattle.tc_compact.specs.Meant.{levels_meant}
use Rattle.tc_path.specs.Reached.{is_reached}
use Rattle.tc_record_text.specs.Left.{items_left, members_left}
use Rattle.tc_path.proofs.reaching.+reaching.Given as goal

abbrev pub decreases-reaches_and_close : goal.decreases-reaches_and_close
decreases-reaches_and_close l = 5 * length l.cursor.now + 4

abbrev pub decreases-reaches_from : goal.decreases-reaches_from
decreases-reaches_from l = 5 * length l.cursor.now + 3

abbrev pub decreases-reaches_hopped : goal.decreases-reaches_hopped
decreases-reaches_hopped l = 5 * length l.cursor.now + 2

abbrev pub decreases-reaches_in_array : goal.decreases-reaches_in_array
decreases-reaches_in_array l = 5 * length l.cursor.now + 1

abbrev pub decreases-reaches_in_object : goal.decreases-reaches_in_object
decreases-reaches_in_object l = 5 * length l.cursor.now + 1

abbrev pub decreases-reaches_in_each : goal.decreases-reaches_in_each
decreases-reaches_in_each l = 5 * length l.cursor.now

abbrev pub decreases-reaches_in_item : goal.decreases-reaches_in_item
decreases-reaches_in_item l = 5 * length l.cursor.now

abbrev pub decreases-reaches_in_member : goal.decreases-reaches_in_member
decreases-reaches_in_member l = 5 * length l.cursor.now

abbrev pub invariant-reaches_in_each-loop-token : goal.invariant-reaches_in_each-loop-token
invariant-reaches_in_each-loop-token l = record {
  found : is_reached (tree_of l.doc) (map hop_of l.hops) (items_left (levels_meant l.names l.cursor)) ≡ is_reached (tree_of l.doc) (map hop_of l.hops) (items_left (levels_meant l.names l.fn.cursor));
  behind : outer (levels_meant l.names l.cursor) ≡ outer (levels_meant l.names l.fn.cursor);
  shorter : length l.cursor ≤ length l.fn.cursor;
}

abbrev pub decreases-reaches_in_each-loop-token : goal.decreases-reaches_in_each-loop-token
decreases-reaches_in_each-loop-token l = length l.cursor

abbrev pub invariant-reaches_in_item-loop-token : goal.invariant-reaches_in_item-loop-token
invariant-reaches_in_item-loop-token l = record {
  at : slice_get (items_left (levels_meant l.names l.cursor)) l.left ≡ slice_get (items_left (levels_meant l.names l.fn.cursor)) l.place;
  behind : outer (levels_meant l.names l.cursor) ≡ outer (levels_meant l.names l.fn.cursor);
  shorter : length l.cursor ≤ length l.fn.cursor;
}

abbrev pub decreases-reaches_in_item-loop-token : goal.decreases-reaches_in_item-loop-token
decreases-reaches_in_item-loop-token l = length l.cursor

abbrev pub invariant-reaches_in_member-loop-token : goal.invariant-reaches_in_member-loop-token
invariant-reaches_in_member-loop-token l = record {
  at : member_at l.name (members_left (levels_meant l.names l.cursor)) ≡ member_at l.name (members_left (levels_meant l.names l.fn.cursor));
  behind : outer (levels_meant l.names l.cursor) ≡ outer (levels_meant l.names l.fn.cursor);
  shorter : length l.cursor ≤ length l.fn.cursor;
}

abbrev pub decreases-reaches_in_member-loop-token : goal.decreases-reaches_in_member-loop-token
decreases-reaches_in_member-loop-token l = length l.cursor
