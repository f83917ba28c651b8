use Rattle.std.proofs.Common.{◌<◌, length, arith}
use Rattle.std.proofs.lemmas.List.Sorted.{length_permutation, IsPermutation-trans}
use Rattle.tc_doc_reader.proofs.members.Orders.repeat.Goals as goal

pub members-smaller : goal.members-smaller
members-smaller c =
    let inside : c.members.at < length c.members.found.items = grind arith in
    omega (arith, inside, length_permutation _ _ c.exchange.ensures)

pub members-preserved : goal.members-preserved
members-preserved c = IsPermutation-trans _ _ _ c.members.invariant c.exchange.ensures
