use Rattle.std.proofs.Common.{◌-◌, ℕ, List, Option, length}
use Rattle.tc_model.specs.Document.{Name}
use Rattle.tc_query.specs.Readers.{KnowsUnder}
use Rattle.tc_query.proofs.known.Known.make_room.Given as goal

abbrev pub invariant-loop-self : goal.invariant-loop-self
invariant-loop-self l = (names : List Name) (hops : Option (List ℕ)) → KnowsUnder names hops l.fn.self → KnowsUnder names hops l.self-inside.records.items

abbrev pub decreases-loop-self : goal.decreases-loop-self
decreases-loop-self l = 16 - length l.self-inside.records.items
