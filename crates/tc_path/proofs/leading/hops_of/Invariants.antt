use Rattle.std.proofs.Common.{ℕ, List, ◌++◌, drop, map}
use Rattle.tc_command.specs.Asks.{hop_of}
use Rattle.tc_path.specs.Leads.{AreHops}
use Rattle.tc_path.proofs.leading.hops_of.Given as goal

-- with the numbers of the hops that are left those of all are there
abbrev pub invariant-loop-hop : goal.invariant-loop-hop
invariant-loop-hop l = (ks : List ℕ) → AreHops l.names (map hop_of (drop l.hop-index l.hop-items)) ks → AreHops l.names (map hop_of l.hop-items) (l.numbers.items ++ ks)
