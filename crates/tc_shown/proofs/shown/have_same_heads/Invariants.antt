use Rattle.std.proofs.Common.{◌≡◌, map, take}
use Rattle.tc_shown.specs.Heads.{head_of}
use Rattle.tc_shown.proofs.shown.have_same_heads.Given as goal

abbrev pub invariant-loop-at : goal.invariant-loop-at
invariant-loop-at g l = map head_of (take l.at l.some) ≡ map head_of (take l.at l.others)
