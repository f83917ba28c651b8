use Rattle.std.proofs.Common.{◌≡◌, ◌+◌, max, length, map}
use Rattle.tc_record.specs.Record.{greatest as greatest_of, joined}
use Rattle.tc_compact.specs.Slots.{numbers_in}
use Rattle.tc_compact.specs.Meant.{name_at}
use Rattle.tc_compact.proofs.slot_sum.sum_of_names.Given as goal

abbrev pub invariant-loop-token : goal.invariant-loop-token
invariant-loop-token l =
    let all = map (name_at l.names) (numbers_in l.from.tokens) in
    let left = map (name_at l.names) (numbers_in l.cursor) in
    record {
      count : l.sum.count + length (numbers_in l.cursor) ≡ length (numbers_in l.from.tokens);
      greatest : max l.sum.greatest (greatest_of (map length left)) ≡ greatest_of (map length all);
      bytes : l.sum.name_bytes + length (joined left) ≡ length (joined all);
    }

abbrev pub decreases-loop-token : goal.decreases-loop-token
decreases-loop-token l = length l.cursor
