-- Some of the replies were heard, and the lines of the others are left.
use Rattle.std.proofs.Common.{◌≤◌, List, length}
use Rattle.tc_request_model.specs.Reply.{Reply}
use Rattle.tc_gen.proofs.Hearing.{HearsOn, MayHear}
use Rattle.tc_gen.proofs.tally.Tally.hear.Given as goal

abbrev pub invariant-loop-end : goal.invariant-loop-end
invariant-loop-end l = (length l.rest ≤ length l.lines) × ((replies more : List Reply) → MayHear l.fn.self l.lines replies more → HearsOn replies more l.rest l.self)

abbrev pub decreases-loop-end : goal.decreases-loop-end
decreases-loop-end l = length l.rest
