use Rattle.std.proofs.Common.{◌≡◌, ◌+◌, ◌<◌, ◌^◌, length}
use Rattle.std.specs.Prelude.{◌↔◌, All}
use Rattle.tc_flush.specs.Counting.{IsShort, records_kept}
use Rattle.tc_flush.proofs.counting.short_records.Given as goal

abbrev pub invariant-loop-entry : goal.invariant-loop-entry
invariant-loop-entry l = record {
  short : All IsShort (records_kept l.entries) ↔ All IsShort (records_kept l.sealed);
  count : l.held + length (records_kept l.entries) ≡ length (records_kept l.sealed);
  few : length (records_kept l.sealed) < 2 ^ 64;
}

abbrev pub decreases-loop-entry : goal.decreases-loop-entry
decreases-loop-entry l = length l.entries
