use Rattle.std.proofs.Common.{◌≡◌, ◌++◌, length, map}
use Rattle.tc_record.specs.Record.{joined}
use Rattle.tc_compact.specs.Slots.{numbers_in}
use Rattle.tc_compact.specs.Meant.{name_at}
use Rattle.tc_compact.proofs.expanding.put_names.Given as goal

abbrev pub invariant-loop-token : goal.invariant-loop-token
invariant-loop-token l = l.out.items ++ joined (map (name_at l.names) (numbers_in l.cursor)) ≡ l.fn.out.items ++ joined (map (name_at l.names) (numbers_in l.from.tokens))

abbrev pub decreases-loop-token : goal.decreases-loop-token
decreases-loop-token l = length l.cursor
