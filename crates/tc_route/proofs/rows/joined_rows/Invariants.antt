use Rattle.std.proofs.Common.{◌≡◌, ◌++◌, map}
use Rattle.tc_route.proofs.rows.joined_rows.Given as goal

abbrev pub invariant-loop-id : goal.invariant-loop-id
invariant-loop-id l = (l.initial._id-iterator ≡ l.yielded ++ l._id-iterator) × (l.rows.items ≡ map (λ e. e.1) l.yielded)
