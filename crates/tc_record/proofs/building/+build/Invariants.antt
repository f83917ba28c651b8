use Rattle.std.proofs.Common.{◌≡◌, ◌≤◌, ◌+◌, ◌*◌, ◌++◌, length, map}
use Rattle.tc_value.specs.Meaning.{tree_of, member_of}
use Rattle.tc_record.specs.Building.{innermost, outer, value_in, member_in, levels_of, HoldDocuments}
use Rattle.tc_record.proofs.building.+build.Given as goal

abbrev pub decreases-value_behind : goal.decreases-value_behind
decreases-value_behind l = 2 * length l.cursor.now + 1

abbrev pub decreases-items_behind : goal.decreases-items_behind
decreases-items_behind l = 2 * length l.cursor.now

abbrev pub decreases-members_behind : goal.decreases-members_behind
decreases-members_behind l = 2 * length l.cursor.now

abbrev pub invariant-items_behind-loop-token : goal.invariant-items_behind-loop-token
invariant-items_behind-loop-token l = record {
  items : map tree_of l.items.items ++ map value_in (innermost (levels_of l.cursor)) ≡ map value_in (innermost (levels_of l.fn.cursor));
  outer : outer (levels_of l.cursor) ≡ outer (levels_of l.fn.cursor);
  lawful : HoldDocuments (levels_of l.cursor);
  shorter : length l.cursor ≤ length l.fn.cursor;
}

abbrev pub decreases-items_behind-loop-token : goal.decreases-items_behind-loop-token
decreases-items_behind-loop-token l = length l.cursor

abbrev pub invariant-members_behind-loop-token : goal.invariant-members_behind-loop-token
invariant-members_behind-loop-token l = record {
  members : map member_of l.members.items ++ map member_in (innermost (levels_of l.cursor)) ≡ map member_in (innermost (levels_of l.fn.cursor));
  outer : outer (levels_of l.cursor) ≡ outer (levels_of l.fn.cursor);
  lawful : HoldDocuments (levels_of l.cursor);
  shorter : length l.cursor ≤ length l.fn.cursor;
}

abbrev pub decreases-members_behind-loop-token : goal.decreases-members_behind-loop-token
decreases-members_behind-loop-token l = length l.cursor
