use Rattle.std.proofs.Common.{◌≡◌, ◌≤◌, [], List, length, take}
use Rattle.std.specs.Prelude.{All}
use Rattle.tc_lsm_model.specs.Contents.{Partition, Content}
use Rattle.tc_schema_model.specs.Counted.{nothing, IsCanonical}
use Rattle.tc_merge.specs.Merging.{newest_names, newest_schema}
use Rattle.tc_audit.specs.Reasons.{AreRight}
use Rattle.tc_audit.specs.Told.{IsHeld, IsOf}
use Rattle.tc_audit.proofs.auditing.count_all.Given as goal

abbrev pub invariant-loop-at : goal.invariant-loop-at
invariant-loop-at g l =
    let counts = g.F.Watch.Watch.counts in
    record {
      older_is : l.older ≡ take l.at l.list;
      schema_is : l.schema ≡ newest_schema nothing l.older;
      canonical : IsCanonical (length (newest_names [] l.older)) l.schema;
      right : (part : Partition) → All (IsHeld (λ file. g.F.Frozen.content file)) l.list → All (IsOf part) l.list → (cs : List Content) × AreRight (λ file. g.F.Frozen.content file) part l.older cs;
      faults : (counts l.fn.watch).faults ≤ (counts l.watch).faults;
    }
