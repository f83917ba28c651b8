use Rattle.std.proofs.Common.{length}
use Rattle.tc_record.specs.Record.{texts}
use Rattle.tc_path.proofs.Spots.{TextsLeft}
use Rattle.tc_path.proofs.standing.has_text.Given as goal

abbrev pub invariant-loop-len : goal.invariant-loop-len
invariant-loop-len l = TextsLeft (texts l.of.tokens) l.which l.left l.lengths l.rest

abbrev pub decreases-loop-len : goal.decreases-loop-len
decreases-loop-len l = length l.lengths
