use Rattle.std.proofs.Common.{◌≡◌, ◌-◌}
use Rattle.tc_bytes.specs.Codec.{any_order}
use Rattle.tc_bytes.specs.Reading.{elements_at}
use Rattle.tc_log.specs.Reading.{entry_at}
use Rattle.tc_log.proofs.entry.body_in.Given as goal

abbrev pub invariant-loop : goal.invariant-loop
invariant-loop l = record {
  reads : elements_at any_order entry_at (l.count - l.counter) l.writes.items l.rest ≡ elements_at any_order entry_at l.count l.fn.writes.items l.body;
}
