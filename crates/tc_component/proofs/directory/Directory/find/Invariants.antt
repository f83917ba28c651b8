use Rattle.std.proofs.Common.{◌≤◌, ◌<◌, ◌-◌, ℕ, length, map, get_or}
use Rattle.tc_component.specs.declared.slot.Slot.{Slot}
use Rattle.tc_component.proofs.directory.Directory.find.Given as goal

abbrev pub invariant-loop-low : goal.invariant-loop-low
invariant-loop-low l = record {
  order : l.low ≤ l.high;
  within : l.high ≤ length l.self;
  less : (k : ℕ) → k < l.low → get_or (map (λ (s : Slot). s.key) l.self) k 0 < l.key;
  greater : (k : ℕ) → l.high ≤ k → k < length l.self → l.key < get_or (map (λ (s : Slot). s.key) l.self) k 0;
}

abbrev pub decreases-loop-low : goal.decreases-loop-low
decreases-loop-low l = l.high - l.low
