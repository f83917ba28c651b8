use Rattle.std.proofs.Common.{◌≡◌, ℕ, [], length}
use Rattle.tc_route.specs.Meaning.{requests_at}
use Rattle.tc_route.proofs.splitting.nothing_for.Given as goal

abbrev pub invariant-loop : goal.invariant-loop
invariant-loop l = (length l.parts.items ≡ l.counter) × ((p : ℕ) → requests_at p l.parts.items ≡ [])
