use Rattle.std.proofs.Common.{arith}
use Rattle.std.proofs.lemmas.List.Sorted.{length_permutation, IsPermutation-trans}
use Rattle.tc_doc_reader.proofs.members.Orders.take_back.Goals as goal

pub members-preserved : goal.members-preserved
members-preserved c =
    let l = c.members in
    (omega (arith, l.invariant.0, length_permutation _ _ c.exchange.ensures), IsPermutation-trans _ _ _ l.invariant.1 c.exchange.ensures)
