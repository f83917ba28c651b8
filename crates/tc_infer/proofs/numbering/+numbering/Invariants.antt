use Rattle.std.proofs.Common.{◌≡◌, ◌≤◌, ◌+◌, ◌*◌, ◌++◌, length, map}
use Rattle.tc_model.specs.Dictionary.{all_learned, number}
use Rattle.tc_model.specs.ShapeNames.{names_of_items, names_of_members}
use Rattle.tc_record.specs.Record.{joined}
use Rattle.tc_schema_model.specs.Counted.{IsBelowCanonical, AreFieldsCanonical}
use Rattle.tc_schema_model.specs.Added.{items_added, members_added}
use Rattle.tc_schema.specs.Places.{below_counted, fields_counted}
use Rattle.tc_infer.specs.Levels.{innermost, outside, without_names, levels}
use Rattle.tc_infer.proofs.numbering.+numbering.Given as goal

abbrev pub decreases-learn_value : goal.decreases-learn_value
decreases-learn_value l = 3 * length l.cursor.now + 2

abbrev pub decreases-learn_items : goal.decreases-learn_items
decreases-learn_items l = 3 * length l.cursor.now + 1

abbrev pub decreases-learn_item : goal.decreases-learn_item
decreases-learn_item l = 3 * length l.cursor.now + 3

abbrev pub decreases-learn_members : goal.decreases-learn_members
decreases-learn_members l = 3 * length l.cursor.now + 1

abbrev pub decreases-learn_member : goal.decreases-learn_member
decreases-learn_member l = 3 * length l.cursor.now + 3

-- the items that are left, learned and counted from here on, are all items learned and counted
abbrev pub invariant-learn_items-loop-token : goal.invariant-learn_items-loop-token
invariant-learn_items-loop-token l =
    let xs = without_names (innermost (levels l.cursor)) in
    let all = without_names (innermost (levels l.fn.cursor)) in
    let last = all_learned l.fn.names (names_of_items all) in
    record {
      learned : all_learned l.names (names_of_items xs) ≡ last;
      left : items_added last xs (below_counted l.below) ≡ items_added last all (below_counted l.fn.below);
      numbers : l.met.numbers.items ++ map (number last) (names_of_items xs) ≡ l.fn.met.numbers.items ++ map (number last) (names_of_items all);
      bytes : l.met.name_bytes + length (joined (names_of_items xs)) ≡ l.fn.met.name_bytes + length (joined (names_of_items all));
      outer : outside (levels l.cursor) ≡ outside (levels l.fn.cursor);
      shorter : length l.cursor ≤ length l.fn.cursor;
      canonical : IsBelowCanonical (length l.names) (below_counted l.below);
    }

abbrev pub decreases-learn_items-loop-token : goal.decreases-learn_items-loop-token
decreases-learn_items-loop-token l = length l.cursor

-- and the members
abbrev pub invariant-learn_members-loop-token : goal.invariant-learn_members-loop-token
invariant-learn_members-loop-token l =
    let ms = innermost (levels l.cursor) in
    let all = innermost (levels l.fn.cursor) in
    let last = all_learned l.fn.names (names_of_members all) in
    record {
      learned : all_learned l.names (names_of_members ms) ≡ last;
      left : members_added last ms (fields_counted l.fields.items) ≡ members_added last all (fields_counted l.fn.fields.items);
      numbers : l.met.numbers.items ++ map (number last) (names_of_members ms) ≡ l.fn.met.numbers.items ++ map (number last) (names_of_members all);
      bytes : l.met.name_bytes + length (joined (names_of_members ms)) ≡ l.fn.met.name_bytes + length (joined (names_of_members all));
      outer : outside (levels l.cursor) ≡ outside (levels l.fn.cursor);
      shorter : length l.cursor ≤ length l.fn.cursor;
      canonical : AreFieldsCanonical (length l.names) 0 (fields_counted l.fields.items);
    }

abbrev pub decreases-learn_members-loop-token : goal.decreases-learn_members-loop-token
decreases-learn_members-loop-token l = length l.cursor
