use Rattle.std.proofs.Common.{◌≡◌, map, take}
use Rattle.tc_view.specs.Places.{shown_by}
use Rattle.tc_shown.proofs.scan.numbers_of.Given as goal

abbrev pub invariant-loop-snapshot : goal.invariant-loop-snapshot
invariant-loop-snapshot g l = l.upto.items ≡ map (λ s. (shown_by s).upto) (take l.snapshot-index l.snapshots)
