use Rattle.std.proofs.Common.{◌≡◌}
use Rattle.tc_view.specs.declared.rule.Key.{Key}
use Rattle.tc_view.specs.Places.{awaited_by, IsLensOf, IsReady}
use Rattle.schedule_rows.proofs.views.rounds.Given as goal

-- so many writes were published as there were rounds
abbrev pub invariant-loop-round : goal.invariant-loop-round
invariant-loop-round g l = (k : Key) × IsReady k l.publisher × IsLensOf k l.lens × ((awaited_by l.publisher).upto ≡ l.round)
