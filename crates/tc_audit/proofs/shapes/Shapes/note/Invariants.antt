use Rattle.std.proofs.Common.{◌≡◌}
use Rattle.tc_audit.proofs.shapes.Shapes.note.Given as goal

abbrev pub invariant-loop-step : goal.invariant-loop-step
invariant-loop-step l = (l.self.form ≡ l.fn.self.form) × (l.self.known ≡ l.fn.self.known)
