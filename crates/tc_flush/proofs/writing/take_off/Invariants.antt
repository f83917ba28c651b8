use Rattle.std.proofs.Common.{◌≡◌, length}
use Rattle.tc_flush.specs.Recounting.{FitsEach, all_removed, shapes_kept}
use Rattle.tc_flush.proofs.writing.take_off.Given as goal

abbrev pub invariant-loop-entry : goal.invariant-loop-entry
invariant-loop-entry l = record {
  fits : FitsEach l.names (shapes_kept l.entries) l.schema;
  same : all_removed l.names (shapes_kept l.entries) l.schema ≡ all_removed l.names (shapes_kept l.sealed) l.fn.schema;
}

abbrev pub decreases-loop-entry : goal.decreases-loop-entry
decreases-loop-entry l = length l.entries
