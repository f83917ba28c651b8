use Rattle.std.proofs.Common.{◌≡◌, ◌≤◌, length, map, slice_get, ◌+◌, ◌*◌}
use Rattle.tc_model.specs.Document.{member_at}
use Rattle.tc_command.specs.Asks.{hop_of}
use Rattle.tc_record.specs.Building.{outer}
use Rattle.tc_compact.specs.Meant.{levels_meant}
use Rattle.tc_path.specs.Reached.{first_reached, IsLawful}
use Rattle.tc_record_text.specs.Left.{items_left, members_left}
use Rattle.tc_path.proofs.finding.+finding.Given as goal

abbrev pub decreases-first_and_close : goal.decreases-first_and_close
decreases-first_and_close l = 5 * length l.cursor.now + 4

abbrev pub decreases-first_from : goal.decreases-first_from
decreases-first_from l = 5 * length l.cursor.now + 3

abbrev pub decreases-first_hopped : goal.decreases-first_hopped
decreases-first_hopped l = 5 * length l.cursor.now + 2

abbrev pub decreases-first_in_array : goal.decreases-first_in_array
decreases-first_in_array l = 5 * length l.cursor.now + 1

abbrev pub decreases-first_in_object : goal.decreases-first_in_object
decreases-first_in_object l = 5 * length l.cursor.now + 1

abbrev pub decreases-first_in_each : goal.decreases-first_in_each
decreases-first_in_each l = 5 * length l.cursor.now

abbrev pub decreases-first_in_item : goal.decreases-first_in_item
decreases-first_in_item l = 5 * length l.cursor.now

abbrev pub decreases-first_in_member : goal.decreases-first_in_member
decreases-first_in_member l = 5 * length l.cursor.now

abbrev pub invariant-first_in_each-loop-token : goal.invariant-first_in_each-loop-token
invariant-first_in_each-loop-token l = record {
  found : first_reached (map hop_of l.hops) (items_left (levels_meant l.names l.cursor)) ≡ first_reached (map hop_of l.hops) (items_left (levels_meant l.names l.fn.cursor));
  behind : outer (levels_meant l.names l.cursor) ≡ outer (levels_meant l.names l.fn.cursor);
  lawful : IsLawful l.names l.fn.cursor → IsLawful l.names l.cursor;
  shorter : length l.cursor ≤ length l.fn.cursor;
}

abbrev pub decreases-first_in_each-loop-token : goal.decreases-first_in_each-loop-token
decreases-first_in_each-loop-token l = length l.cursor

abbrev pub invariant-first_in_item-loop-token : goal.invariant-first_in_item-loop-token
invariant-first_in_item-loop-token l = record {
  at : slice_get (items_left (levels_meant l.names l.cursor)) l.left ≡ slice_get (items_left (levels_meant l.names l.fn.cursor)) l.place;
  behind : outer (levels_meant l.names l.cursor) ≡ outer (levels_meant l.names l.fn.cursor);
  lawful : IsLawful l.names l.fn.cursor → IsLawful l.names l.cursor;
  shorter : length l.cursor ≤ length l.fn.cursor;
}

abbrev pub decreases-first_in_item-loop-token : goal.decreases-first_in_item-loop-token
decreases-first_in_item-loop-token l = length l.cursor

abbrev pub invariant-first_in_member-loop-token : goal.invariant-first_in_member-loop-token
invariant-first_in_member-loop-token l = record {
  at : member_at l.name (members_left (levels_meant l.names l.cursor)) ≡ member_at l.name (members_left (levels_meant l.names l.fn.cursor));
  behind : outer (levels_meant l.names l.cursor) ≡ outer (levels_meant l.names l.fn.cursor);
  lawful : IsLawful l.names l.fn.cursor → IsLawful l.names l.cursor;
  shorter : length l.cursor ≤ length l.fn.cursor;
}

abbrev pub decreases-first_in_member-loop-token : goal.decreases-first_in_member-loop-token
decreases-first_in_member-loop-token l = length l.cursor
