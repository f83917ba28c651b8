-- How deep what is read nests, item by item and member by member.
use Rattle.std.proofs.Common.{◌≤◌, ◌++◌, ℕ, List, [], ◌∷◌, Ordering, Less, Equal, Greater, arith}
use Rattle.std.specs.Ordering.{match_ordering}
use Rattle.tc_model.specs.Tree.{items_of, Members, no_members, member, depth, items_depth, members_depth}
use Rattle.tc_model.specs.Document.{Name, Document, Scalar, name_cmp}
use Rattle.tc_doc_reader.specs.Tokens.{with_member}

pub one_more_item_deep : (ts : List Document) (t : Document) (n : ℕ) → items_depth (items_of ts) ≤ n → depth t ≤ n → items_depth (items_of (ts ++ t ∷ [])) ≤ n
one_more_item_deep [] t n all one = omega (arith, one)
one_more_item_deep (u ∷ ts) t n all one = omega (arith, all, one_more_item_deep ts t n (omega (arith, all)) one)

pub one_more_member_deep : (k : Name) (t : Document) (ms : Members Name Scalar) (n : ℕ) → members_depth ms ≤ n → depth t ≤ n → members_depth (with_member k t ms) ≤ n
one_more_member_deep k t no_members n all one = omega (arith, one)
one_more_member_deep k t (member l u ms) n all one = at_order (name_cmp k l) (one_more_member_deep k t ms n (omega (arith, all)) one)
  where
    at_order : (o : Ordering) → members_depth (with_member k t ms) ≤ n
        → members_depth (match_ordering o (member k t (member l u ms)) (member l t ms) (member l u (with_member k t ms))) ≤ n
    at_order Less rest = omega (arith, all, one)
    at_order Equal rest = omega (arith, all, one)
    at_order Greater rest = omega (arith, all, rest)
