use Rattle.std.proofs.Common.{◌≡◌, ◌+◌, ◌≤◌, length}
use Rattle.tc_audit.specs.Lacking.{is_numbered, lacks}
use Rattle.tc_audit.proofs.stored.has_no_number.Given as goal

abbrev pub invariant-loop-token : goal.invariant-loop-token
invariant-loop-token l = record {
  same : lacks (is_numbered l.fn.unwanted) l.depth l.cursor ≡ lacks (is_numbered l.fn.unwanted) 0 l.fn.of.tokens;
  shallow : l.depth + length l.cursor ≤ length l.fn.of.tokens;
}

abbrev pub decreases-loop-token : goal.decreases-loop-token
decreases-loop-token l = length l.cursor
