use Rattle.std.proofs.Common.{◌≡◌, map, take}
use Rattle.tc_command.specs.Asks.{hop_of}
use Rattle.tc_command.proofs.asks.PathExpr.copy.Given as goal

abbrev pub invariant-loop-hop : goal.invariant-loop-hop
invariant-loop-hop l = map hop_of l.hops.items ≡ map hop_of (take l.hop-index l.hop-items)
