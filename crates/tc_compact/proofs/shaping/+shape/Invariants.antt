use Rattle.std.proofs.Common.{◌≡◌, ◌≤◌, ◌+◌, ◌*◌, ◌++◌, length, map}
use Rattle.std.specs.List.{AllByRecursion}
use Rattle.tc_model.specs.Document.{document_shape, member_shape}
use Rattle.tc_value.specs.ShapeMeaning.{shape_tree, shape_member}
use Rattle.tc_record.specs.Building.{innermost, outer, value_in, member_in, HoldDocuments}
use Rattle.tc_compact.specs.Meant.{levels_meant, IsOrdered}
use Rattle.tc_compact.proofs.shaping.+shape.Given as goal

abbrev pub decreases-value_behind : goal.decreases-value_behind
decreases-value_behind l = 2 * length l.cursor.now + 1

abbrev pub decreases-items_behind : goal.decreases-items_behind
decreases-items_behind l = 2 * length l.cursor.now

abbrev pub decreases-members_behind : goal.decreases-members_behind
decreases-members_behind l = 2 * length l.cursor.now

abbrev pub invariant-items_behind-loop-token : goal.invariant-items_behind-loop-token
invariant-items_behind-loop-token l = record {
  items : map shape_tree l.items.items ++ map document_shape (map value_in (innermost (levels_meant l.names l.cursor))) ≡ map document_shape (map value_in (innermost (levels_meant l.names l.fn.cursor)));
  ordered : AllByRecursion IsOrdered (map shape_tree l.items.items);
  outer : outer (levels_meant l.names l.cursor) ≡ outer (levels_meant l.names l.fn.cursor);
  lawful : HoldDocuments (levels_meant l.names l.fn.cursor) → HoldDocuments (levels_meant l.names l.cursor);
  shorter : length l.cursor ≤ length l.fn.cursor;
}

abbrev pub decreases-items_behind-loop-token : goal.decreases-items_behind-loop-token
decreases-items_behind-loop-token l = length l.cursor

abbrev pub invariant-members_behind-loop-token : goal.invariant-members_behind-loop-token
invariant-members_behind-loop-token l = record {
  members : map shape_member l.members.items ++ map member_shape (map member_in (innermost (levels_meant l.names l.cursor))) ≡ map member_shape (map member_in (innermost (levels_meant l.names l.fn.cursor)));
  ordered : AllByRecursion (λ m. IsOrdered m.1) (map shape_member l.members.items);
  outer : outer (levels_meant l.names l.cursor) ≡ outer (levels_meant l.names l.fn.cursor);
  lawful : HoldDocuments (levels_meant l.names l.fn.cursor) → HoldDocuments (levels_meant l.names l.cursor);
  shorter : length l.cursor ≤ length l.fn.cursor;
}

abbrev pub decreases-members_behind-loop-token : goal.decreases-members_behind-loop-token
decreases-members_behind-loop-token l = length l.cursor
