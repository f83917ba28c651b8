use Rattle.std.proofs.Common.{◌≡◌, ℕ, ◌<◌, ◌∷◌, [], ◌++◌, length}
use Rattle.std.specs.Prelude.{nat_lt, if◌then◌else◌}
use Rattle.tc_command.specs.Commands.{ask_of}
use Rattle.tc_request_model.specs.Request.{query}
use Rattle.tc_route.specs.Meaning.{requests_at}
use Rattle.tc_route.proofs.splitting.ask_all.Given as goal

abbrev pub invariant-loop-p : goal.invariant-loop-p
invariant-loop-p l =
    (length l.parts.items ≡ length l.initial.parts.items)
    × ((q : ℕ) → q < length l.initial.parts.items → requests_at q l.parts.items ≡ requests_at q l.initial.parts.items ++ (if nat_lt q l.p then (l.at, query (ask_of l.ask)) ∷ [] else []))
