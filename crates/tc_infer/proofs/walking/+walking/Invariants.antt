use Rattle.std.proofs.Common.{◌≡◌, ◌≤◌, true, length, ◌+◌, ◌*◌}
use Rattle.tc_schema_model.specs.Counted.{IsBelowCanonical, AreFieldsCanonical}
use Rattle.tc_schema_model.specs.Added.{items_added, members_added, AreItemsNamed, AreMembersNamed}
use Rattle.tc_schema_model.specs.HasCounters.{items_have_counters, members_have_counters}
use Rattle.tc_schema.specs.Places.{below_counted, fields_counted}
use Rattle.tc_infer.specs.Levels.{innermost, outside, without_names, levels_under}
use Rattle.tc_infer.proofs.walking.+walking.Given as goal

abbrev pub decreases-count_value : goal.decreases-count_value
decreases-count_value l = 3 * length l.cursor.now + 2

abbrev pub decreases-count_items : goal.decreases-count_items
decreases-count_items l = 3 * length l.cursor.now + 1

abbrev pub decreases-count_item : goal.decreases-count_item
decreases-count_item l = 3 * length l.cursor.now + 3

abbrev pub decreases-count_members : goal.decreases-count_members
decreases-count_members l = 3 * length l.cursor.now + 1

abbrev pub decreases-count_member : goal.decreases-count_member
decreases-count_member l = 3 * length l.cursor.now + 3

-- the items that are left, counted from here on, are all items counted
abbrev pub invariant-count_items-loop-token : goal.invariant-count_items-loop-token
invariant-count_items-loop-token l = record {
  left : items_added l.names (without_names (innermost (levels_under l.names l.cursor))) (below_counted l.below) ≡ items_added l.names (without_names (innermost (levels_under l.names l.fn.cursor))) (below_counted l.fn.below);
  outer : outside (levels_under l.names l.cursor) ≡ outside (levels_under l.names l.fn.cursor);
  shorter : length l.cursor ≤ length l.fn.cursor;
  named : AreItemsNamed l.names (without_names (innermost (levels_under l.names l.cursor)));
  canonical : IsBelowCanonical (length l.names) (below_counted l.below);
  sure : items_have_counters l.names (without_names (innermost (levels_under l.names l.fn.cursor))) (below_counted l.fn.below) ≡ true → items_have_counters l.names (without_names (innermost (levels_under l.names l.cursor))) (below_counted l.below) ≡ true;
}

abbrev pub decreases-count_items-loop-token : goal.decreases-count_items-loop-token
decreases-count_items-loop-token l = length l.cursor

-- and the members
abbrev pub invariant-count_members-loop-token : goal.invariant-count_members-loop-token
invariant-count_members-loop-token l = record {
  left : members_added l.names (innermost (levels_under l.names l.cursor)) (fields_counted l.fields.items) ≡ members_added l.names (innermost (levels_under l.names l.fn.cursor)) (fields_counted l.fn.fields.items);
  outer : outside (levels_under l.names l.cursor) ≡ outside (levels_under l.names l.fn.cursor);
  shorter : length l.cursor ≤ length l.fn.cursor;
  named : AreMembersNamed l.names (innermost (levels_under l.names l.cursor));
  canonical : AreFieldsCanonical (length l.names) 0 (fields_counted l.fields.items);
  sure : members_have_counters l.names (innermost (levels_under l.names l.fn.cursor)) (fields_counted l.fn.fields.items) ≡ true → members_have_counters l.names (innermost (levels_under l.names l.cursor)) (fields_counted l.fields.items) ≡ true;
}

abbrev pub decreases-count_members-loop-token : goal.decreases-count_members-loop-token
decreases-count_members-loop-token l = length l.cursor
