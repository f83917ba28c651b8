use Rattle.tc_keeper.proofs.ShowLoops.{PlacedBy}
use Rattle.tc_keeper.proofs.Turns.{InTurn}
use Rattle.tc_keeper.proofs.showing.place_all.Given as goal

-- those below a number show where their documents lie
abbrev pub invariant-loop-at : goal.invariant-loop-at
invariant-loop-at g l = InTurn (PlacedBy g.S.Frozen.Frozen.content l.engines) l.fn.shown.items l.shown.items l.at
