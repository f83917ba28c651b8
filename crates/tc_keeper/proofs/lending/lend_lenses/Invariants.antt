use Rattle.std.proofs.Common.{◌≡◌, ◌≤◌, length}
use Rattle.tc_shown.specs.Shown.{Reads}
use Rattle.tc_view.specs.Places.{kept_by}
use Rattle.tc_keeper.proofs.Turns.{Beside}
use Rattle.tc_keeper.proofs.lending.lend_lenses.Given as goal

-- those below a number have lent a lens, and show what they showed
abbrev pub invariant-loop-at : goal.invariant-loop-at
invariant-loop-at g l = record {
  same : l.shown.items ≡ l.fn.shown.items;
  lent : Beside (λ p s lens. Reads s.book lens × ((kept_by lens).history ≡ s.history)) l.fn.shown.items l.lenses.items;
  many : length l.lenses.items ≡ l.at;
  within : l.at ≤ length l.fn.shown.items;
}
