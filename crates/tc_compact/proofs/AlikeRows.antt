-- Objects that are alike, one behind the other: the tags and the numbers of members tell where they end, and whether names ascend.
use Rattle.std.proofs.Common.{◌≡◌, ◌∙◌, ◌-◌, ◌<◌, ℕ, true, List, [], ◌∷◌, ◌++◌, Option, None, Some, is_some, option_to_list, length, take, refl, sym, ap, subst, append_assoc, arith}
use Rattle.std.proofs.lemmas.Grind.{flat_map-append}
use Rattle.std.proofs.lemmas.List.{length-append, map-append}
use Rattle.std.proofs.Math.Seq.{take-append_seam}
use Rattle.tc_model.specs.Document.{Name, Scalar, null, boolean, integer, text}
use Rattle.tc_model.specs.Tree.{leaf, array, object, Items, no_items, item, Members, no_members, member}
use Rattle.tc_record.specs.Preorder.{Piece, scalar, array_opened, object_opened, closed, Token, token, preorder, items_preorder, members_preorder}
use Rattle.tc_record.specs.Record.{tags, labels, piece_tag, NumberedTree}
use Rattle.tc_compact.specs.Meant.{name_at}
use Rattle.tc_compact.specs.Outline.{OutlineState, IsOutlineOf, IsBehindOrdered, first_piece, behind_first, is_ordered, are_items_ordered, are_members_ordered}
use Rattle.tc_compact.proofs.OutlineSteps.{first_item, first_member, not_closed, same_head}

abbrev Tokens : Type 0
Tokens = List (Token ℕ Scalar)

-- ---- an outline with tokens before it

abbrev with_tokens : Tokens → OutlineState → OutlineState
with_tokens [] o = o
with_tokens (t ∷ ts) o = record { tags = piece_tag t.piece ∷ (with_tokens ts o).tags; slots = option_to_list t.label ++ (with_tokens ts o).slots }

with_both : (ts us : Tokens) (o : OutlineState) → with_tokens (ts ++ us) o ≡ with_tokens ts (with_tokens us o)
with_both [] us o = refl
with_both (t ∷ ts) us o = rw (with_both ts us o) refl

with_tags : (ts : Tokens) (o : OutlineState) → (with_tokens ts o).tags ≡ tags ts ++ o.tags
with_tags [] o = refl
with_tags (t ∷ ts) o = ap (λ ns. piece_tag t.piece ∷ ns) (with_tags ts o)

with_slots : (ts : Tokens) (o : OutlineState) → (with_tokens ts o).slots ≡ labels ts ++ o.slots
with_slots [] o = refl
with_slots (t ∷ ts) o = ap (λ ns. option_to_list t.label ++ ns) (with_slots ts o) ∙ sym (append_assoc (option_to_list t.label) (labels ts) o.slots)

-- ---- the first token of each

both_numbers : (l m : Option ℕ) (xs ys : List ℕ) → is_some l ≡ is_some m → option_to_list l ++ xs ≡ option_to_list m ++ ys → (option_to_list l ≡ option_to_list m) × (xs ≡ ys)
both_numbers None None xs ys both e = (refl, e)
both_numbers None (Some k) xs ys both e = absurd (cc)
both_numbers (Some j) None xs ys both e = absurd (cc)
both_numbers (Some j) (Some k) xs ys both e = let parts = same_head e in (ap (λ n. n ∷ []) parts.0, parts.1)

firsts : (l m : Option ℕ) (p q : Piece Scalar) (ts us : Tokens) (o : OutlineState) → is_some l ≡ is_some m → IsOutlineOf (token m q ∷ us) (with_tokens (token l p ∷ ts) o) → (option_to_list l ≡ option_to_list m) × (piece_tag p ≡ piece_tag q) × IsOutlineOf us (with_tokens ts o)
firsts l m p q ts us o both is =
    let tag = same_head is.tags_are in
    let number = both_numbers l m _ _ both is.slots_are in
    (number.0, tag.0, record { tags_are = tag.1; slots_are = number.1 })

no_scalar : {A : Type 0} (s : Scalar) (n : ℕ) → piece_tag (scalar s) ≡ n → 4 < n → A
no_scalar null n e more = absurd (omega (arith, e, more))
no_scalar (boolean b) n e more = absurd (omega (arith, e, more))
no_scalar (integer z) n e more = absurd (omega (arith, e, more))
no_scalar (text s) n e more = absurd (omega (arith, e, more))

-- ---- values alike, and what is behind them

module _ (names : List Name) where
  mutual
    trees_repeat : (a b : NumberedTree) (l m : Option ℕ) (us : Tokens) (o : OutlineState) → is_some l ≡ is_some m → IsOutlineOf (preorder m b ++ us) (with_tokens (preorder l a) o)
        → (option_to_list l ≡ option_to_list m) × (is_ordered names b ≡ is_ordered names a) × IsOutlineOf us o
    trees_repeat (leaf s) (leaf t) l m us o both is = let first = firsts l m (scalar s) (scalar t) [] us o both is in (first.0, refl, first.2)
    trees_repeat (leaf s) (array ys) l m us o both is = no_scalar s 5 (same_head is.tags_are).0 (omega arith)
    trees_repeat (leaf s) (object ns) l m us o both is = no_scalar s 6 (same_head is.tags_are).0 (omega arith)
    trees_repeat (array xs) (leaf t) l m us o both is = no_scalar t 5 (sym (same_head is.tags_are).0) (omega arith)
    trees_repeat (array xs) (array ys) l m us o both is =
        let first = firsts l m array_opened array_opened (items_preorder xs ++ token None closed ∷ []) ((items_preorder ys ++ token None closed ∷ []) ++ us) o both is in
        let inner = items_repeat xs ys us o (subst (λ ts. IsOutlineOf ts (with_tokens (items_preorder xs ++ token None closed ∷ []) o)) (append_assoc (items_preorder ys) (token None closed ∷ []) us) first.2) in
        (first.0, inner.0, inner.1)
    trees_repeat (array xs) (object ns) l m us o both is = absurd (let same = (same_head is.tags_are).0 in omega (arith, same))
    trees_repeat (object ms) (leaf t) l m us o both is = no_scalar t 6 (sym (same_head is.tags_are).0) (omega arith)
    trees_repeat (object ms) (array ys) l m us o both is = absurd (let same = (same_head is.tags_are).0 in omega (arith, same))
    trees_repeat (object ms) (object ns) l m us o both is =
        let first = firsts l m object_opened object_opened (members_preorder ms ++ token None closed ∷ []) ((members_preorder ns ++ token None closed ∷ []) ++ us) o both is in
        let inner = members_repeat None ms ns us o (subst (λ ts. IsOutlineOf ts (with_tokens (members_preorder ms ++ token None closed ∷ []) o)) (append_assoc (members_preorder ns) (token None closed ∷ []) us) first.2) in
        (first.0, inner.0, inner.1)

    items_repeat : (xs ys : Items ℕ Scalar) (us : Tokens) (o : OutlineState) → IsOutlineOf (items_preorder ys ++ token None closed ∷ us) (with_tokens (items_preorder xs ++ token None closed ∷ []) o)
        → (are_items_ordered names ys ≡ are_items_ordered names xs) × IsOutlineOf us o
    items_repeat no_items no_items us o is = (refl, record { tags_are = (same_head is.tags_are).1; slots_are = is.slots_are })
    items_repeat no_items (item b ys) us o is = not_closed b (same_head (is.tags_are ∙ ap tags (first_item b ys (token None closed ∷ us)))).0
    items_repeat (item a xs) no_items us o is = not_closed a (same_head (sym is.tags_are ∙ ap (λ ts. (with_tokens ts o).tags) (first_item a xs (token None closed ∷ [])))).0
    items_repeat (item a xs) (item b ys) us o is =
        let close = token None closed ∷ [] in
        let parted = append_assoc (preorder None b) (items_preorder ys) (token None closed ∷ us) in
        let before = ap (λ ts. with_tokens ts o) (append_assoc (preorder None a) (items_preorder xs) close) ∙ with_both (preorder None a) (items_preorder xs ++ close) o in
        let behind = with_tokens (items_preorder xs ++ close) o in
        let here = subst (λ ts. IsOutlineOf ts (with_tokens (preorder None a) behind)) parted (subst (IsOutlineOf (items_preorder (item b ys) ++ token None closed ∷ us)) before is) in
        let first = trees_repeat a b None None (items_preorder ys ++ token None closed ∷ us) behind refl here in
        let more = items_repeat xs ys us o first.2 in
        (rw (first.1, more.0) refl, more.1)

    members_repeat : (last : Option Name) (ms ns : Members ℕ Scalar) (us : Tokens) (o : OutlineState) → IsOutlineOf (members_preorder ns ++ token None closed ∷ us) (with_tokens (members_preorder ms ++ token None closed ∷ []) o)
        → (are_members_ordered names last ns ≡ are_members_ordered names last ms) × IsOutlineOf us o
    members_repeat last no_members no_members us o is = (refl, record { tags_are = (same_head is.tags_are).1; slots_are = is.slots_are })
    members_repeat last no_members (member k b ns) us o is = not_closed b (same_head (is.tags_are ∙ ap tags (first_member k b ns (token None closed ∷ us)))).0
    members_repeat last (member j a ms) no_members us o is = not_closed a (same_head (sym is.tags_are ∙ ap (λ ts. (with_tokens ts o).tags) (first_member j a ms (token None closed ∷ [])))).0
    members_repeat last (member j a ms) (member k b ns) us o is =
        let close = token None closed ∷ [] in
        let parted = append_assoc (preorder (Some k) b) (members_preorder ns) (token None closed ∷ us) in
        let before = ap (λ ts. with_tokens ts o) (append_assoc (preorder (Some j) a) (members_preorder ms) close) ∙ with_both (preorder (Some j) a) (members_preorder ms ++ close) o in
        let behind = with_tokens (members_preorder ms ++ close) o in
        let here = subst (λ ts. IsOutlineOf ts (with_tokens (preorder (Some j) a) behind)) parted (subst (IsOutlineOf (members_preorder (member k b ns) ++ token None closed ∷ us)) before is) in
        let first = trees_repeat a b (Some j) (Some k) (members_preorder ns ++ token None closed ∷ us) behind refl here in
        let same : j ≡ k = (same_head first.0).0 in
        let more = members_repeat (Some (name_at names j)) ms ns us o first.2 in
        (rw (sym same, first.1, more.0) refl, more.1)

-- ---- an object behind one with the same tags and numbers

-- an outline is what members and their close tell, and what is behind them
parted : (ms : Members ℕ Scalar) (rest : Tokens) (o behind : OutlineState) → IsOutlineOf (members_preorder ms ++ token None closed ∷ rest) o → IsOutlineOf rest behind
    → (o.tags ≡ tags (members_preorder ms ++ token None closed ∷ []) ++ behind.tags) × (o.slots ≡ labels (members_preorder ms ++ token None closed ∷ []) ++ behind.slots)
parted ms rest o behind is after =
    let held = members_preorder ms ++ token None closed ∷ [] in
    let split : members_preorder ms ++ token None closed ∷ rest ≡ held ++ rest = sym (append_assoc (members_preorder ms) (token None closed ∷ []) rest) in (
      is.tags_are ∙ ap tags split ∙ map-append (λ t. piece_tag t.piece) held rest ∙ ap (λ ns. tags held ++ ns) (sym after.tags_are),
      is.slots_are ∙ ap labels split ∙ flat_map-append (λ t. option_to_list t.label) held rest ∙ ap (λ ns. labels held ++ ns) (sym after.slots_are),
    )

-- what is taken of a list up to what is left of it
front : (all held left : List ℕ) → all ≡ held ++ left → take (length all - length left) all ≡ held
front all held left same =
    let many : length all - length left ≡ length held = let parts = ap length same ∙ length-append held left in omega (arith, parts) in
    ap (λ n. take n all) many ∙ ap (take (length held)) same ∙ take-append_seam held left

-- the first tag of an object
object_first : (t : NumberedTree) → 6 ≡ piece_tag (first_piece t) → (ms : Members ℕ Scalar) × (t ≡ object ms)
object_first (leaf s) e = no_scalar s 6 (sym e) (omega arith)
object_first (array xs) e = absurd (omega (arith, e))
object_first (object ms) e = (ms, refl)

-- members that passed, the outline before and behind them, and items that are left: an object with the same tags and numbers passes
module _ (names : List Name) (ms : Members ℕ Scalar) (rest : Tokens) (o behind : OutlineState) (is : IsOutlineOf (members_preorder ms ++ token None closed ∷ rest) o) (after : IsOutlineOf rest behind)
    (ordered : are_members_ordered names None ms ≡ true) (row numbers : List ℕ) (row_is : row ≡ take (length o.tags - length behind.tags) o.tags) (numbers_are : numbers ≡ take (length o.slots - length behind.slots) o.slots)
    (now later : OutlineState) (tags_are : now.tags ≡ 6 ∷ (row ++ later.tags)) (slots_are : now.slots ≡ numbers ++ later.slots) (more : Tokens) where
  row_behind : (ys : Items ℕ Scalar) → IsOutlineOf (items_preorder ys ++ token None closed ∷ more) now → IsBehindOrdered names ys more later
  row_behind no_items stands = absurd (let same = (same_head (sym tags_are ∙ stands.tags_are)).0 in omega (arith, same))
  row_behind (item t ts) stands =
      let held = members_preorder ms ++ token None closed ∷ [] in
      let us = items_preorder ts ++ token None closed ∷ more in
      let parts = parted ms rest o behind is after in
      let first = same_head (sym tags_are ∙ stands.tags_are ∙ ap tags (first_item t ts (token None closed ∷ more))) in
      let inner = object_first t first.0 in
      let next : IsOutlineOf (behind_first t us) (with_tokens held later) = record {
        tags_are = with_tags held later ∙ ap (λ ns. ns ++ later.tags) (sym (row_is ∙ front o.tags (tags held) behind.tags parts.0)) ∙ first.1;
        slots_are = with_slots held later ∙ ap (λ ns. ns ++ later.slots) (sym (numbers_are ∙ front o.slots (labels held) behind.slots parts.1)) ∙ sym slots_are ∙ stands.slots_are ∙ ap labels (first_item t ts (token None closed ∷ more));
      } in
      let told = members_repeat names None ms inner.0 us later (subst (λ u. IsOutlineOf (behind_first u us) (with_tokens held later)) inner.1 next) in
      let same : is_ordered names t ≡ true = ap (is_ordered names) inner.1 ∙ told.0 ∙ ordered in
      record { left = ts; passed = rw same refl; stands = told.1 }

  pub row_passed : (xs : Items ℕ Scalar) → IsBehindOrdered names xs more now → IsBehindOrdered names xs more later
  row_passed xs before = let next = row_behind before.left before.stands in record { left = next.left; passed = next.passed ∙ before.passed; stands = next.stands }
