use Rattle.std.proofs.Common.{◌≡◌, ◌≤◌, ◌+◌, ◌*◌, ◌++◌, false, length, map}
use Rattle.serde_json.specs.Written.{items_text, members_text}
use Rattle.tc_model.specs.Json.{items_data, members_data}
use Rattle.tc_model.specs.Tree.{items_of, members_of}
use Rattle.tc_record.specs.Building.{innermost, outer, value_in, member_in}
use Rattle.tc_compact.specs.Meant.{levels_meant}
use Rattle.tc_record_text.specs.KeptLabels.{AreLabels}
use Rattle.tc_record_text.proofs.values.+values.Given as goal

abbrev pub decreases-put_value : goal.decreases-put_value
decreases-put_value l = 2 * length l.cursor.now + 1

abbrev pub decreases-put_items : goal.decreases-put_items
decreases-put_items l = 2 * length l.cursor.now

abbrev pub decreases-put_members : goal.decreases-put_members
decreases-put_members l = 2 * length l.cursor.now

abbrev pub invariant-put_items-loop-token : goal.invariant-put_items-loop-token
invariant-put_items-loop-token l = record {
  text : l.sheet ++ items_text l.later (items_data (items_of (map value_in (innermost (levels_meant l.names l.cursor))))) ≡ l.fn.sheet ++ items_text false (items_data (items_of (map value_in (innermost (levels_meant l.names l.fn.cursor)))));
  outer : outer (levels_meant l.names l.cursor) ≡ outer (levels_meant l.names l.fn.cursor);
  shorter : length l.cursor ≤ length l.fn.cursor;
  labels : AreLabels l.names l.memo.kept.items;
}

abbrev pub decreases-put_items-loop-token : goal.decreases-put_items-loop-token
decreases-put_items-loop-token l = length l.cursor

abbrev pub invariant-put_members-loop-token : goal.invariant-put_members-loop-token
invariant-put_members-loop-token l = record {
  text : l.sheet ++ members_text l.later (members_data (members_of (map member_in (innermost (levels_meant l.names l.cursor))))) ≡ l.fn.sheet ++ members_text l.before (members_data (members_of (map member_in (innermost (levels_meant l.names l.fn.cursor)))));
  outer : outer (levels_meant l.names l.cursor) ≡ outer (levels_meant l.names l.fn.cursor);
  shorter : length l.cursor ≤ length l.fn.cursor;
  labels : AreLabels l.names l.memo.kept.items;
}

abbrev pub decreases-put_members-loop-token : goal.decreases-put_members-loop-token
decreases-put_members-loop-token l = length l.cursor
