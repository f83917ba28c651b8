use Rattle.std.proofs.Common.{◌≡◌, ◌+◌, ◌≤◌, length}
use Rattle.tc_record.specs.StoredTest.{lacks_id}
use Rattle.tc_record.proofs.stored.has_no_id.Given as goal

abbrev pub invariant-loop-token : goal.invariant-loop-token
invariant-loop-token l = record {
  same : lacks_id l.depth l.cursor ≡ lacks_id 0 l.fn.found.tokens;
  shallow : l.depth + length l.cursor ≤ length l.fn.found.tokens;
}

abbrev pub decreases-loop-token : goal.decreases-loop-token
decreases-loop-token l = length l.cursor
