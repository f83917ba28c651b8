-- No line feed was read so far, and the source has not told of its end.
use Rattle.std.proofs.Common.{◌≡◌, ◌-◌, ◌≤◌, false, length}
use Rattle.tc_lines.specs.Holding.{IsOneLine}
use Rattle.tc_lines.specs.declared.intake.TheConstants.{PIECE, MAX_TAKEN}
use Rattle.tc_lines.proofs.Progress.{IsUnderWay}
use Rattle.tc_lines.proofs.reader.read_line.Given as goal

abbrev pub invariant-loop-too_long : goal.invariant-loop-too_long
invariant-loop-too_long g l =
    IsUnderWay l.limit l.oversized l.initial.intake l.intake (g.I.Source.left l.initial.source) (g.I.Source.left l.source)
    (g.O.Sink.taken l.sink) (g.I.Source.moments l.initial.source) (g.I.Source.moments l.source)
    × IsOneLine l.intake.rest × (length l.intake.front ≤ l.limit) × (length l.intake.rest ≤ PIECE) × (l.intake.taken ≤ MAX_TAKEN)
    × (g.I.Source.faults l.initial.source ≤ g.I.Source.faults l.source) × (l.initial.intake.taken ≡ MAX_TAKEN → l.source ≡ l.initial.source)
    × (l.intake.ended ≡ false)

abbrev pub decreases-loop-too_long : goal.decreases-loop-too_long
decreases-loop-too_long g l = MAX_TAKEN - l.intake.taken
