use Rattle.std.proofs.Common.{◌≡◌, ◌≤◌, length, map, drop, ◌+◌, ◌*◌}
use Rattle.tc_model.specs.Tree.{items_of, members_of}
use Rattle.tc_value.specs.Meaning.{tree_of, member_of}
use Rattle.tc_record.specs.Building.{innermost, outer, value_in, member_in}
use Rattle.tc_compact.specs.Meant.{levels_meant}
use Rattle.tc_request_model.specs.Equal.{same_items, same_members}
use Rattle.tc_path.proofs.comparing.+comparing.Given as goal

abbrev pub decreases-equals_value : goal.decreases-equals_value
decreases-equals_value l = 2 * length l.cursor.now + 1

abbrev pub decreases-equals_items : goal.decreases-equals_items
decreases-equals_items l = 2 * length l.cursor.now

abbrev pub decreases-equals_members : goal.decreases-equals_members
decreases-equals_members l = 2 * length l.cursor.now

abbrev pub invariant-equals_items-loop-item : goal.invariant-equals_items-loop-item
invariant-equals_items-loop-item l = record {
  same : same_items (items_of (map value_in (innermost (levels_meant l.names l.cursor)))) (items_of (map tree_of (drop l.item-index l.items))) ≡ same_items (items_of (map value_in (innermost (levels_meant l.names l.fn.cursor)))) (items_of (map tree_of l.items));
  behind : outer (levels_meant l.names l.cursor) ≡ outer (levels_meant l.names l.fn.cursor);
  shorter : length l.cursor ≤ length l.fn.cursor;
}

abbrev pub invariant-equals_members-loop-member : goal.invariant-equals_members-loop-member
invariant-equals_members-loop-member l = record {
  same : same_members (members_of (map member_in (innermost (levels_meant l.names l.cursor)))) (members_of (map member_of (drop l.member-index l.members))) ≡ same_members (members_of (map member_in (innermost (levels_meant l.names l.fn.cursor)))) (members_of (map member_of l.members));
  behind : outer (levels_meant l.names l.cursor) ≡ outer (levels_meant l.names l.fn.cursor);
  shorter : length l.cursor ≤ length l.fn.cursor;
}
