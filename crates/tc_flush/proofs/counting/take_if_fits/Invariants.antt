use Rattle.std.proofs.Common.{◌≡◌, length}
use Rattle.std.specs.Prelude.{◌↔◌}
use Rattle.tc_schema_model.specs.Counted.{IsCanonical}
use Rattle.tc_flush.specs.Recounting.{FitsEach, all_removed, shapes_kept}
use Rattle.tc_flush.proofs.counting.take_if_fits.Given as goal

abbrev pub invariant-loop-entry : goal.invariant-loop-entry
invariant-loop-entry l = record {
  canonical : IsCanonical (length l.names) l.left;
  fits : FitsEach l.names (shapes_kept l.entries) l.left ↔ FitsEach l.names (shapes_kept l.sealed) l.fn.left;
  same : all_removed l.names (shapes_kept l.entries) l.left ≡ all_removed l.names (shapes_kept l.sealed) l.fn.left;
}

abbrev pub decreases-loop-entry : goal.decreases-loop-entry
decreases-loop-entry l = length l.entries
