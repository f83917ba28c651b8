use Rattle.std.proofs.Common.{◌≡◌, max, drop}
use Rattle.tc_record.specs.Record.{greatest as greatest_of}
use Rattle.tc_compact.proofs.layout.greatest.Given as goal

abbrev pub invariant-loop-slot : goal.invariant-loop-slot
invariant-loop-slot l = max l.greatest (greatest_of (drop l.slot-index l.slots)) ≡ greatest_of l.slots
