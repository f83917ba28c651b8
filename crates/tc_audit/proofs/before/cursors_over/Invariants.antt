use Rattle.std.proofs.Common.{◌≡◌, ◌≤◌, replicate}
use Rattle.tc_component.specs.Cursors.{holds_nothing}
use Rattle.tc_audit.proofs.before.cursors_over.Given as goal

abbrev pub invariant-loop : goal.invariant-loop
invariant-loop g l = record {
  within : l.counter ≤ l.count;
  cursors : l.cursors.items ≡ replicate l.counter holds_nothing;
}
