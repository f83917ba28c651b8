use Rattle.std.proofs.Common.{◌≤◌}
use Rattle.std.specs.Prelude.{vec_capacity}
use Rattle.tc_verdicts.specs.Stages.{StandsAt}
use Rattle.tc_verdicts.proofs.auditing.check_kits.Given as goal

abbrev pub invariant-loop-number : goal.invariant-loop-number
invariant-loop-number g l = record {
  stands : StandsAt g.H.Store.Store.history g.H.Store.Watch.Watch.counts g.H.Store.Frozen.Frozen.content g.H.Shelf.files g.H.Shelf.kit_faults g.H.Shelf.faults l.partitions l.fn.shelf l.shelf l.kits.items l.lines.items l.number;
  within : l.number ≤ l.partitions;
  room : l.partitions ≤ vec_capacity l.kits;
}
