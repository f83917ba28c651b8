use Rattle.std.proofs.Common.{map, sym, rules}
use Rattle.std.proofs.lemmas.List.Sorted.{IsPermutation-map, IsPermutation-trans}
use Rattle.tc_model.specs.Document.{IsAscending}
use Rattle.tc_value.specs.Meaning.{member_of}
use Rattle.tc_doc_reader.proofs.Orders.{put_in_order}
use Rattle.tc_doc_reader.proofs.members.in_order.Goals as goal

pub returns-then-ascend-clause-put : goal.returns-then-ascend-clause-put
returns-then-ascend-clause-put c =
    let sorted : IsAscending (map member_of c.repeat.new.found.items) = search rules in
    sym (put_in_order _ _ (IsPermutation-map member_of _ _ c.repeat.ensures) sorted)

pub returns-then-ascend-2-clause-put : goal.returns-then-ascend-2-clause-put
returns-then-ascend-2-clause-put c =
    let sorted : IsAscending (map member_of c.sort.new.found.items) = search rules in
    let moved = IsPermutation-trans _ _ _ (IsPermutation-trans _ _ _ c.repeat.ensures c.take_back.ensures) c.sort.ensures in
    sym (put_in_order _ _ (IsPermutation-map member_of _ _ moved) sorted)
