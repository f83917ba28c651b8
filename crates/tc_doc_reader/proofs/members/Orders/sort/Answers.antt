use Rattle.std.proofs.Common.{◌∙◌, ◌<◌, length, arith}
use Rattle.std.proofs.lemmas.List.Sorted.{length_permutation, IsPermutation-swap, IsPermutation-trans}
use Rattle.tc_doc_reader.proofs.members.Orders.sort.Goals as goal

pub members-preserved : goal.members-preserved
members-preserved c =
    let l = c.members in
    let inside : l.at < length l.found.items = grind arith in
    let within : c.least_from-from.result < length l.found.items = grind arith in
    let moved = IsPermutation-swap l.found.items c.swap.new.self.items l.at c.least_from-from.result inside within c.swap.ensures.items in
    (l.invariant.0, length_permutation _ _ moved ∙ l.invariant.1, IsPermutation-trans _ _ _ l.invariant.2 moved)
