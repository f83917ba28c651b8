use Rattle.std.proofs.Common.{◌≡◌, ◌≤◌, ◌++◌, Some, length, map, flat_map, slice_get, ◌+◌, ◌*◌}
use Rattle.std.specs.List.{AllByRecursion}
use Rattle.tc_model.specs.Document.{member_at}
use Rattle.tc_command.specs.Asks.{hop_of}
use Rattle.tc_record.specs.Building.{outer}
use Rattle.tc_compact.specs.Meant.{levels_meant}
use Rattle.tc_request_model.specs.Paths.{reached}
use Rattle.tc_path.specs.Reached.{values_at, IsLawful}
use Rattle.tc_record_text.specs.Left.{items_left, members_left}
use Rattle.tc_path.proofs.selecting.+selecting.Given as goal

abbrev pub decreases-all_from : goal.decreases-all_from
decreases-all_from l = 4 * length l.cursor.now + 3

abbrev pub decreases-all_hopped : goal.decreases-all_hopped
decreases-all_hopped l = 4 * length l.cursor.now + 2

abbrev pub decreases-all_in_array : goal.decreases-all_in_array
decreases-all_in_array l = 4 * length l.cursor.now + 1

abbrev pub decreases-all_in_object : goal.decreases-all_in_object
decreases-all_in_object l = 4 * length l.cursor.now + 1

abbrev pub decreases-all_in_each : goal.decreases-all_in_each
decreases-all_in_each l = 4 * length l.cursor.now

abbrev pub decreases-all_in_item : goal.decreases-all_in_item
decreases-all_in_item l = 4 * length l.cursor.now

abbrev pub decreases-all_in_member : goal.decreases-all_in_member
decreases-all_in_member l = 4 * length l.cursor.now

abbrev pub invariant-all_in_each-loop-token : goal.invariant-all_in_each-loop-token
invariant-all_in_each-loop-token l = record {
  at : values_at l.names l.values.items ++ map Some (flat_map (reached (map hop_of l.hops)) (items_left (levels_meant l.names l.cursor))) ≡ values_at l.names l.fn.values.items ++ map Some (flat_map (reached (map hop_of l.hops)) (items_left (levels_meant l.names l.fn.cursor)));
  behind : outer (levels_meant l.names l.cursor) ≡ outer (levels_meant l.names l.fn.cursor);
  all : AllByRecursion (IsLawful l.names) l.fn.values.items → IsLawful l.names l.fn.cursor → AllByRecursion (IsLawful l.names) l.values.items;
  lawful : IsLawful l.names l.fn.cursor → IsLawful l.names l.cursor;
  shorter : length l.cursor ≤ length l.fn.cursor;
}

abbrev pub decreases-all_in_each-loop-token : goal.decreases-all_in_each-loop-token
decreases-all_in_each-loop-token l = length l.cursor

abbrev pub invariant-all_in_item-loop-token : goal.invariant-all_in_item-loop-token
invariant-all_in_item-loop-token l = record {
  at : slice_get (items_left (levels_meant l.names l.cursor)) l.left ≡ slice_get (items_left (levels_meant l.names l.fn.cursor)) l.place;
  same : l.values ≡ l.fn.values;
  behind : outer (levels_meant l.names l.cursor) ≡ outer (levels_meant l.names l.fn.cursor);
  lawful : IsLawful l.names l.fn.cursor → IsLawful l.names l.cursor;
  shorter : length l.cursor ≤ length l.fn.cursor;
}

abbrev pub decreases-all_in_item-loop-token : goal.decreases-all_in_item-loop-token
decreases-all_in_item-loop-token l = length l.cursor

abbrev pub invariant-all_in_member-loop-token : goal.invariant-all_in_member-loop-token
invariant-all_in_member-loop-token l = record {
  at : member_at l.name (members_left (levels_meant l.names l.cursor)) ≡ member_at l.name (members_left (levels_meant l.names l.fn.cursor));
  same : l.values ≡ l.fn.values;
  behind : outer (levels_meant l.names l.cursor) ≡ outer (levels_meant l.names l.fn.cursor);
  lawful : IsLawful l.names l.fn.cursor → IsLawful l.names l.cursor;
  shorter : length l.cursor ≤ length l.fn.cursor;
}

abbrev pub decreases-all_in_member-loop-token : goal.decreases-all_in_member-loop-token
decreases-all_in_member-loop-token l = length l.cursor
