use Rattle.std.proofs.Common.{◌≡◌, ◌≤◌, length, ◌+◌, ◌*◌}
use Rattle.tc_schema_model.specs.Counted.{IsBelowCanonical, AreFieldsCanonical}
use Rattle.tc_schema_model.specs.Added.{items_removed, members_removed}
use Rattle.tc_schema_model.specs.Fits.{are_items_fit, are_members_fit}
use Rattle.tc_schema.specs.Places.{below_counted, fields_counted}
use Rattle.tc_infer.specs.Levels.{innermost, outside, without_names, levels_under}
use Rattle.tc_infer.proofs.taking_walk.+walking.Given as goal

abbrev pub decreases-take_value : goal.decreases-take_value
decreases-take_value l = 3 * length l.cursor.now + 2

abbrev pub decreases-take_items : goal.decreases-take_items
decreases-take_items l = 3 * length l.cursor.now + 1

abbrev pub decreases-take_item : goal.decreases-take_item
decreases-take_item l = 3 * length l.cursor.now + 3

abbrev pub decreases-take_members : goal.decreases-take_members
decreases-take_members l = 3 * length l.cursor.now + 1

abbrev pub decreases-take_member : goal.decreases-take_member
decreases-take_member l = 3 * length l.cursor.now + 3

-- the items that are left, taken off from here on, are all items taken off, and fit where all do
abbrev pub invariant-take_items-loop-token : goal.invariant-take_items-loop-token
invariant-take_items-loop-token l = record {
  left : items_removed l.names (without_names (innermost (levels_under l.names l.cursor))) (below_counted l.below) ≡ items_removed l.names (without_names (innermost (levels_under l.names l.fn.cursor))) (below_counted l.fn.below);
  fits : are_items_fit l.names (without_names (innermost (levels_under l.names l.cursor))) (below_counted l.below) ≡ are_items_fit l.names (without_names (innermost (levels_under l.names l.fn.cursor))) (below_counted l.fn.below);
  outer : outside (levels_under l.names l.cursor) ≡ outside (levels_under l.names l.fn.cursor);
  shorter : length l.cursor ≤ length l.fn.cursor;
  canonical : IsBelowCanonical (length l.names) (below_counted l.below);
}

abbrev pub decreases-take_items-loop-token : goal.decreases-take_items-loop-token
decreases-take_items-loop-token l = length l.cursor

-- and the members
abbrev pub invariant-take_members-loop-token : goal.invariant-take_members-loop-token
invariant-take_members-loop-token l = record {
  left : members_removed l.names (innermost (levels_under l.names l.cursor)) (fields_counted l.fields.items) ≡ members_removed l.names (innermost (levels_under l.names l.fn.cursor)) (fields_counted l.fn.fields.items);
  fits : are_members_fit l.names (innermost (levels_under l.names l.cursor)) (fields_counted l.fields.items) ≡ are_members_fit l.names (innermost (levels_under l.names l.fn.cursor)) (fields_counted l.fn.fields.items);
  outer : outside (levels_under l.names l.cursor) ≡ outside (levels_under l.names l.fn.cursor);
  shorter : length l.cursor ≤ length l.fn.cursor;
  canonical : AreFieldsCanonical (length l.names) 0 (fields_counted l.fields.items);
}

abbrev pub decreases-take_members-loop-token : goal.decreases-take_members-loop-token
decreases-take_members-loop-token l = length l.cursor
