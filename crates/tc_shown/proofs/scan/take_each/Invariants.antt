use Rattle.std.proofs.Common.{◌≡◌, map, take}
use Rattle.tc_view.specs.Places.{kept_by, shown_by}
use Rattle.tc_shown.specs.Scans.{IsTaken}
use Rattle.tc_shown.proofs.Turns.{Turned}
use Rattle.tc_shown.proofs.scan.take_each.Given as goal

abbrev pub invariant-loop-at : goal.invariant-loop-at
invariant-loop-at g l = Turned IsTaken l.at l.fn.passes l.passes × (map shown_by l.snapshots.items ≡ map (λ pass. kept_by pass.lens) (take l.at l.passes))
