use Rattle.std.proofs.Common.{◌≡◌, ◌≤◌, drop, length}
use Rattle.std.specs.Prelude.{flat_map}
use Rattle.tc_shown.specs.Newest.{newest_of}
use Rattle.tc_view.specs.Changes.{writes_in}
use Rattle.tc_shown.proofs.newest.newest_written.Given as goal

-- the table has the newest writes of the chunks from here on
abbrev pub invariant-loop-at : goal.invariant-loop-at
invariant-loop-at l = record {
  inside : l.at ≤ length l.chunks;
  newest : l.table ≡ newest_of (flat_map writes_in (drop l.at l.chunks));
}

abbrev pub decreases-loop-at : goal.decreases-loop-at
decreases-loop-at l = l.at
