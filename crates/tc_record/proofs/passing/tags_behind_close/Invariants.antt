use Rattle.std.proofs.Common.{◌≡◌, ◌<◌, ◌-◌, true, option_map, length}
use Rattle.tc_record.specs.Behind.{behind_close, behind_closes}
use Rattle.tc_record.specs.Held.{tokens_left}
use Rattle.tc_record.proofs.passing.tags_behind_close.Given as goal

abbrev pub invariant-loop-tag : goal.invariant-loop-tag
invariant-loop-tag l = record {
  deep : l.outer < l.here.kinds.depth;
  left : option_map (behind_closes (l.here.kinds.depth - l.outer)) (tokens_left true l.left l.here) ≡ option_map behind_close (tokens_left true l.fn.tags l.fn.walk);
}

abbrev pub decreases-loop-tag : goal.decreases-loop-tag
decreases-loop-tag l = length l.left
