use Rattle.std.proofs.Common.{◌≡◌, ◌≤◌, ◌++◌, true, length, map}
use Rattle.serde_json.specs.Written.{items_text}
use Rattle.tc_model.specs.Json.{items_data}
use Rattle.tc_model.specs.Tree.{items_of}
use Rattle.tc_record.specs.Building.{innermost, outer, value_in}
use Rattle.tc_compact.specs.Meant.{levels_meant}
use Rattle.tc_record_text.proofs.flat_rows.put_rows.Given as goal

abbrev pub invariant-loop-cursor : goal.invariant-loop-cursor
invariant-loop-cursor l = record {
  text : (l.out.items ++ l.staged) ++ items_text true (items_data (items_of (map value_in (innermost (levels_meant l.names l.cursor))))) ≡ l.fn.out.items ++ items_text true (items_data (items_of (map value_in (innermost (levels_meant l.names l.fn.cursor)))));
  outer : outer (levels_meant l.names l.cursor) ≡ outer (levels_meant l.names l.fn.cursor);
  shorter : length l.cursor ≤ length l.fn.cursor;
}

abbrev pub decreases-loop-cursor : goal.decreases-loop-cursor
decreases-loop-cursor l = length l.cursor
