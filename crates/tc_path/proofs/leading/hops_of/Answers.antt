use Rattle.std.proofs.Common.{◌≡◌, [], drop, map, sym, ap, subst, append-nil}
use Rattle.std.proofs.lemmas.List.{drop_all}
use Rattle.tc_command.specs.Asks.{hop_of}
use Rattle.tc_path.specs.Leads.{AreHops}
use Rattle.tc_path.proofs.leading.hops_of.Goals as goal

pub returns : goal.returns
returns c =
    let names = c.args.names.now in
    let hops = c.as_slice-hop-items.result.now in
    let numbers = c.loop-hop.numbers.items in
    let none : map hop_of (drop c.loop-hop.hop-index hops) ≡ [] = ap (map hop_of) (drop_all c.loop-hop.hop-index hops c.loop-hop-test.false) in
    let all = c.loop-hop.invariant [] (subst (λ left. AreHops names left []) (sym none) tt) in
    subst (λ path. AreHops names path numbers) c.as_slice-hop-items.ensures (subst (AreHops names (map hop_of hops)) (append-nil numbers) all)
