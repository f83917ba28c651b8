-- Members of different names are put among others in any order.
use Rattle.std.proofs.Common.{◌≡◌, ◌∙◌, ◌<◌, ◌++◌, ℕ, zero, suc, refl, sym, ap, List, [], ◌∷◌, length, map, get_or, Bool, true, false, Ordering, Less, Equal, Greater, arith}
use Rattle.std.proofs.lemmas.Cmp.{nat_list_cmp_total, eq_by_cmp_equiv}
use Rattle.std.proofs.lemmas.List.Edits.{swap_is}
use Rattle.std.proofs.lemmas.List.Sorted.{IsPermutation-sym, IsPermutation-swap, IsPermutation-map, IsPermutation-keeps}
use Rattle.std.proofs.lemmas.Map.Keys.{IsDistinct-IsPermutation, IsDistinct-from_sorted}
use Rattle.std.specs.List.{slice_set, swap, AllByRecursion, IsDistinct}
use Rattle.std.specs.List.Sorted.{IsPermutation, IsStrictlySortedBy}
use Rattle.std.specs.Ordering.{ordering_reverse, eq_by_cmp}
use Rattle.tc_model.specs.Tree.{object, members_of, Members, no_members, member}
use Rattle.tc_model.specs.Document.{Name, Document, Scalar, name_cmp, IsAscending}
use Rattle.tc_doc_reader.specs.Tokens.{with_member, with_members}

abbrev Pair : Type 0
Pair = Name × Document

turned : (k l : Name) → name_cmp k l ≡ Less → name_cmp l k ≡ Greater
turned k l e = nat_list_cmp_total.antisymm l k ∙ ap ordering_reverse e

unturned : (k l : Name) → name_cmp k l ≡ Greater → name_cmp l k ≡ Less
unturned k l e = nat_list_cmp_total.antisymm l k ∙ ap ordering_reverse e

-- ---- two members

in_either_order : (k l : Name) (t u : Document) (ms : Members Name Scalar) → name_cmp k l ≡ Less → with_member k t (with_member l u ms) ≡ with_member l u (with_member k t ms)
in_either_order k l t u no_members e = rw (e, turned k l e) refl
in_either_order k l t u (member h v ms) e = at_orders (name_cmp k h) (name_cmp l h) refl refl (in_either_order k l t u ms e)
  where
    below : name_cmp h l ≡ Less → (p : Ordering) → name_cmp l h ≡ p → p ≡ Greater
    below less p is = sym is ∙ turned h l less

    at_orders : (o p : Ordering) → name_cmp k h ≡ o → name_cmp l h ≡ p → with_member k t (with_member l u ms) ≡ with_member l u (with_member k t ms)
        → with_member k t (with_member l u (member h v ms)) ≡ with_member l u (with_member k t (member h v ms))
    at_orders Less Less a b rest = rw (b, a, e, turned k l e, b) refl
    at_orders Less Equal a b rest = rw (b, a, turned k l e, b) refl
    at_orders Less Greater a b rest = rw (b, a, turned k l e, b) refl
    at_orders Equal Greater a b rest = rw (b, a, b) refl
    at_orders Greater Greater a b rest = rw (b, a, b) (ap (member h v) rest)
    at_orders Equal Less a b rest = let c = below (sym (nat_list_cmp_total.congr k h l a) ∙ e) Less b in absurd (cc)
    at_orders Equal Equal a b rest = let c = below (sym (nat_list_cmp_total.congr k h l a) ∙ e) Equal b in absurd (cc)
    at_orders Greater Less a b rest = let c = below (nat_list_cmp_total.trans h k l (unturned k h a) e) Less b in absurd (cc)
    at_orders Greater Equal a b rest = let c = below (nat_list_cmp_total.trans h k l (unturned k h a) e) Equal b in absurd (cc)

abbrev same_name : Name → Name → Bool
same_name = eq_by_cmp name_cmp

commute : (m n : Pair) (ms : Members Name Scalar) → same_name m.0 n.0 ≡ false → with_member m.0 m.1 (with_member n.0 n.1 ms) ≡ with_member n.0 n.1 (with_member m.0 m.1 ms)
commute m n ms differ = at_order (name_cmp m.0 n.0) refl
  where
    at_order : (o : Ordering) → name_cmp m.0 n.0 ≡ o → with_member m.0 m.1 (with_member n.0 n.1 ms) ≡ with_member n.0 n.1 (with_member m.0 m.1 ms)
    at_order Less e = in_either_order m.0 n.0 m.1 n.1 ms e
    at_order Greater e = sym (in_either_order n.0 m.0 n.1 m.1 ms (unturned m.0 n.0 e))
    at_order Equal e = let tied : same_name m.0 n.0 ≡ true = rw e refl in absurd (cc)

-- ---- two members of a list

abbrev AreOthers : Pair → List Pair → Type 0
AreOthers m ms = AllByRecursion (λ k. same_name m.0 k ≡ false) (map (λ n. n.0) ms)

abbrev AreDistinct : List Pair → Type 0
AreDistinct ms = IsDistinct same_name (map (λ n. n.0) ms)

other_there : (m : Pair) (ms : List Pair) (n : ℕ) (d : Pair) → n < length ms → AreOthers m ms → same_name m.0 (get_or ms n d).0 ≡ false
other_there m [] n d inside h = absurd (omega arith)
other_there m (x ∷ ms) zero d inside h = h.0
other_there m (x ∷ ms) (suc n) d inside h = other_there m ms n d (omega arith) h.1

-- a member before a list and one in it, in each other's place
first_exchanged : (ms : List Pair) (n : ℕ) (x d : Pair) (found : Members Name Scalar) → n < length ms → AreOthers x ms → AreDistinct ms
    → with_members (slice_set ms n x) (with_member (get_or ms n d).0 (get_or ms n d).1 found) ≡ with_members ms (with_member x.0 x.1 found)
unfolding IsDistinct
first_exchanged [] n x d found inside others distinct = absurd (omega arith)
first_exchanged (h ∷ ms) zero x d found inside others distinct = ap (with_members ms) (commute x h found others.0)
first_exchanged (h ∷ ms) (suc n) x d found inside others distinct =
    let y = get_or ms n d in
    ap (with_members (slice_set ms n x)) (commute h y found (other_there h ms n d (omega arith) distinct.0))
    ∙ first_exchanged ms n x d (with_member h.0 h.1 found) (omega arith) others.1 distinct.1
    ∙ ap (with_members ms) (commute x h found others.0)

exchanged : (ms : List Pair) (i j : ℕ) (d : Pair) (found : Members Name Scalar) → i < length ms → j < length ms → AreDistinct ms
    → with_members (slice_set (slice_set ms i (get_or ms j d)) j (get_or ms i d)) found ≡ with_members ms found
unfolding IsDistinct
exchanged [] i j d found inside within distinct = absurd (omega arith)
exchanged (h ∷ ms) zero zero d found inside within distinct = refl
exchanged (h ∷ ms) zero (suc j) d found inside within distinct = first_exchanged ms j h d found (omega arith) distinct.0 distinct.1
exchanged (h ∷ ms) (suc i) zero d found inside within distinct = first_exchanged ms i h d found (omega arith) distinct.0 distinct.1
exchanged (h ∷ ms) (suc i) (suc j) d found inside within distinct = exchanged ms i j d (with_member h.0 h.1 found) (omega arith) (omega arith) distinct.1

-- a member behind a list
pub one_more_member : (ms : List Pair) (m : Pair) (found : Members Name Scalar) → with_members (ms ++ m ∷ []) found ≡ with_member m.0 m.1 (with_members ms found)
one_more_member [] m found = refl
one_more_member (n ∷ ms) m found = one_more_member ms m (with_member n.0 n.1 found)

-- ---- a list in another order

-- a member before a list goes in behind it
first_last : (m : Pair) (ms : List Pair) (found : Members Name Scalar) → AreOthers m ms → with_members ms (with_member m.0 m.1 found) ≡ with_member m.0 m.1 (with_members ms found)
first_last m [] found others = refl
first_last m (n ∷ ms) found others = ap (with_members ms) (sym (commute m n found others.0)) ∙ first_last m ms (with_member n.0 n.1 found) others.1

-- members that ascend stay in their order
in_order : (ms : List Pair) → IsAscending ms → with_members ms no_members ≡ members_of ms
unfolding IsStrictlySortedBy IsDistinct
in_order [] sorted = refl
in_order (m ∷ ms) sorted =
    let others = IsDistinct-from_sorted name_cmp (map (λ n. n.0) (m ∷ ms)) sorted in
    first_last m ms no_members others.0 ∙ ap (with_member m.0 m.1) (in_order ms sorted.1) ∙ in_front ms sorted.0
  where
    in_front : (ns : List Pair) → AllByRecursion (λ k. name_cmp m.0 k ≡ Less) (map (λ n. n.0) ns) → with_member m.0 m.1 (members_of ns) ≡ member m.0 m.1 (members_of ns)
    in_front [] h = refl
    in_front (n ∷ ns) h = rw h.0 refl

-- members put one after another are those of any list in which they ascend
pub put_in_order : (ms ns : List Pair) → IsPermutation ms ns → IsAscending ns → with_members ms no_members ≡ members_of ns
put_in_order ms ns moved sorted = (IsPermutation-keeps ns Puts (IsDistinct-from_sorted name_cmp _ sorted, in_order ns sorted) step ms (IsPermutation-sym ms ns moved)).1
  where
    Puts : List Pair → Type 0
    Puts xs = AreDistinct xs × (with_members xs no_members ≡ members_of ns)

    step : (xs : List Pair) (i j : ℕ) → i < length xs → j < length xs → Puts xs → Puts (swap xs i j)
    step xs i j inside within h =
        let d : Pair = ([], object no_members) in
        let moved = IsPermutation-swap xs (swap xs i j) i j inside within refl in (
          IsDistinct-IsPermutation same_name (eq_by_cmp_equiv nat_list_cmp_total).symm _ _ (IsPermutation-map (λ n. n.0) xs (swap xs i j) moved) h.0,
          ap (λ ys. with_members ys no_members) (sym (swap_is xs i j d inside within)) ∙ exchanged xs i j d no_members inside within h.0 ∙ h.1,
        )
