use Rattle.std.proofs.Common.{◌≡◌, ◌≤◌, List, ◌++◌, drop, length}
use Rattle.tc_log.specs.declared.write.Write.{Write}
use Rattle.tc_shown.specs.Newest.{newest_of}
use Rattle.tc_shown.proofs.newest.put_all_below.Given as goal

-- the writes from here on lie below the newer ones
abbrev pub invariant-loop-at : goal.invariant-loop-at
invariant-loop-at l = record {
  inside : l.at ≤ length l.chunk;
  newest : (newer : List Write) → l.fn.table ≡ newest_of newer → l.table ≡ newest_of (drop l.at l.chunk ++ newer);
}

abbrev pub decreases-loop-at : goal.decreases-loop-at
decreases-loop-at l = l.at
