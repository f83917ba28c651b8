use Rattle.std.proofs.Common.{◌≡◌, ◌≤◌, ◌++◌, length, map, flat_map, slice_get, ◌+◌, ◌*◌}
use Rattle.tc_model.specs.Document.{member_at}
use Rattle.tc_command.specs.Asks.{hop_of}
use Rattle.tc_record.specs.Building.{outer}
use Rattle.tc_compact.specs.Meant.{levels_meant}
use Rattle.tc_request_model.specs.Paths.{reached}
use Rattle.tc_record_text.specs.KeptLabels.{AreLabels}
use Rattle.tc_record_text.specs.Listed.{listed}
use Rattle.tc_record_text.specs.Left.{items_left, members_left}
use Rattle.tc_record_text.proofs.reaching.+reaching.Given as goal

abbrev pub decreases-put_from : goal.decreases-put_from
decreases-put_from l = 4 * length l.cursor.now + 3

abbrev pub decreases-put_hopped : goal.decreases-put_hopped
decreases-put_hopped l = 4 * length l.cursor.now + 2

abbrev pub decreases-put_in_array : goal.decreases-put_in_array
decreases-put_in_array l = 4 * length l.cursor.now + 1

abbrev pub decreases-put_in_object : goal.decreases-put_in_object
decreases-put_in_object l = 4 * length l.cursor.now + 1

abbrev pub decreases-put_in_each : goal.decreases-put_in_each
decreases-put_in_each l = 4 * length l.cursor.now

abbrev pub decreases-put_in_item : goal.decreases-put_in_item
decreases-put_in_item l = 4 * length l.cursor.now

abbrev pub decreases-put_in_member : goal.decreases-put_in_member
decreases-put_in_member l = 4 * length l.cursor.now

abbrev pub invariant-put_in_each-loop-token : goal.invariant-put_in_each-loop-token
invariant-put_in_each-loop-token l = record {
  at : l.out.items ++ listed (flat_map (reached (map hop_of l.hops)) (items_left (levels_meant l.names l.cursor))) ≡ l.fn.out.items ++ listed (flat_map (reached (map hop_of l.hops)) (items_left (levels_meant l.names l.fn.cursor)));
  behind : outer (levels_meant l.names l.cursor) ≡ outer (levels_meant l.names l.fn.cursor);
  shorter : length l.cursor ≤ length l.fn.cursor;
  labels : AreLabels l.names l.memo.kept.items;
}

abbrev pub decreases-put_in_each-loop-token : goal.decreases-put_in_each-loop-token
decreases-put_in_each-loop-token l = length l.cursor

abbrev pub invariant-put_in_item-loop-token : goal.invariant-put_in_item-loop-token
invariant-put_in_item-loop-token l = record {
  at : slice_get (items_left (levels_meant l.names l.cursor)) l.left ≡ slice_get (items_left (levels_meant l.names l.fn.cursor)) l.place;
  same : l.out.items ≡ l.fn.out.items;
  behind : outer (levels_meant l.names l.cursor) ≡ outer (levels_meant l.names l.fn.cursor);
  shorter : length l.cursor ≤ length l.fn.cursor;
  labels : AreLabels l.names l.memo.kept.items;
}

abbrev pub decreases-put_in_item-loop-token : goal.decreases-put_in_item-loop-token
decreases-put_in_item-loop-token l = length l.cursor

abbrev pub invariant-put_in_member-loop-token : goal.invariant-put_in_member-loop-token
invariant-put_in_member-loop-token l = record {
  at : member_at l.name (members_left (levels_meant l.names l.cursor)) ≡ member_at l.name (members_left (levels_meant l.names l.fn.cursor));
  same : l.out.items ≡ l.fn.out.items;
  behind : outer (levels_meant l.names l.cursor) ≡ outer (levels_meant l.names l.fn.cursor);
  shorter : length l.cursor ≤ length l.fn.cursor;
  labels : AreLabels l.names l.memo.kept.items;
}

abbrev pub decreases-put_in_member-loop-token : goal.decreases-put_in_member-loop-token
decreases-put_in_member-loop-token l = length l.cursor
