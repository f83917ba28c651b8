use Rattle.std.proofs.Common.{◌≡◌, ◌≤◌, length, vec_capacity, vec_len}
use Rattle.tc_keeper.specs.Showing.{IsShownFirst, ShowsOwnOf}
use Rattle.tc_keeper.proofs.Turns.{Beside}
use Rattle.tc_keeper.proofs.showing.show_all.Given as goal

-- the partitions below a number are shown
abbrev pub invariant-loop-at : goal.invariant-loop-at
invariant-loop-at g l = record {
  shown : Beside (λ p e s. IsShownFirst e s) l.engines l.shown.items;
  own : Beside (ShowsOwnOf g.S.Frozen.Frozen.content) l.engines l.shown.items;
  many : length l.shown.items ≡ l.at;
  counted : vec_len l.shown ≡ l.at;
  within : l.at ≤ length l.engines;
  room : length l.engines ≤ vec_capacity l.shown;
}
