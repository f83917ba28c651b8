-- Steps through the outline of a tree: its values, one after the other, up to the close of what holds them.
use Rattle.std.proofs.Common.{◌≡◌, ◌∙◌, ℕ, Bool, true, false, List, [], ◌∷◌, ◌++◌, Option, None, Some, IsTrue, refl, sym, ap, subst, append_assoc, append-nil}
use Rattle.tc_model.specs.Document.{Name, Scalar, null, boolean, integer, text}
use Rattle.tc_model.specs.Tree.{leaf, array, object, Items, no_items, item, Members, no_members, member}
use Rattle.tc_record.specs.Preorder.{Piece, closed, Token, token, tokens_of, preorder, items_preorder, members_preorder}
use Rattle.tc_record.specs.Record.{tags, labels, piece_tag, NumberedTree}
use Rattle.tc_record.specs.Walk.{is_above}
use Rattle.tc_compact.specs.Meant.{name_at}
use Rattle.tc_compact.specs.Outline.{OutlineState, IsOutlineOf, IsBehindOrdered, first_piece, behind_first, is_ordered, are_items_ordered, are_members_ordered}

-- ---- the first token

first_token : (l : Option ℕ) (t : NumberedTree) (more : List (Token ℕ Scalar)) → preorder l t ++ more ≡ token l (first_piece t) ∷ behind_first t more
first_token l (leaf s) more = refl
first_token l (array xs) more = ap (λ ts. token l (first_piece (array xs)) ∷ ts) (append_assoc (items_preorder xs) (token None closed ∷ []) more)
first_token l (object ms) more = ap (λ ts. token l (first_piece (object ms)) ∷ ts) (append_assoc (members_preorder ms) (token None closed ∷ []) more)

pub first_item : (t : NumberedTree) (ts : Items ℕ Scalar) (more : List (Token ℕ Scalar)) → items_preorder (item t ts) ++ more ≡ token None (first_piece t) ∷ behind_first t (items_preorder ts ++ more)
first_item t ts more = append_assoc (preorder None t) (items_preorder ts) more ∙ first_token None t (items_preorder ts ++ more)

pub first_member : (k : ℕ) (t : NumberedTree) (ms : Members ℕ Scalar) (more : List (Token ℕ Scalar)) → members_preorder (member k t ms) ++ more ≡ token (Some k) (first_piece t) ∷ behind_first t (members_preorder ms ++ more)
first_member k t ms more = append_assoc (preorder (Some k) t) (members_preorder ms) more ∙ first_token (Some k) t (members_preorder ms ++ more)

pub not_closed : {A : Type 0} (t : NumberedTree) → 7 ≡ piece_tag (first_piece t) → A
not_closed (leaf null) e = cc
not_closed (leaf (boolean b)) e = cc
not_closed (leaf (integer z)) e = cc
not_closed (leaf (text s)) e = cc
not_closed (array xs) e = cc
not_closed (object ms) e = cc

-- ---- a tag that is taken

-- what is left of an outline once a tag is taken
pub record IsBehindTag (o : OutlineState) (tag : ℕ) (behind : OutlineState) : Type 0 where
  pub taken : o.tags ≡ tag ∷ behind.tags
  pub slots : behind.slots ≡ o.slots

pub same_head : {x y : ℕ} {xs ys : List ℕ} → x ∷ xs ≡ y ∷ ys → (x ≡ y) × (xs ≡ ys)
same_head e = (cc, cc)

-- the tag of a token, and of a token without a label all that is behind it
token_taken : (l : Option ℕ) (p : Piece Scalar) (ts : List (Token ℕ Scalar)) (o : OutlineState) (tag : ℕ) (behind : OutlineState) → IsOutlineOf (token l p ∷ ts) o → IsBehindTag o tag behind → (tag ≡ piece_tag p) × (behind.tags ≡ tags ts)
token_taken l p ts o tag behind is step = same_head (sym step.taken ∙ is.tags_are)

unlabelled : (p : Piece Scalar) (ts : List (Token ℕ Scalar)) (o : OutlineState) (tag : ℕ) (behind : OutlineState) → IsOutlineOf (token None p ∷ ts) o → IsBehindTag o tag behind → (tag ≡ piece_tag p) × IsOutlineOf ts behind
unlabelled p ts o tag behind is step =
    let here = token_taken None p ts o tag behind is step in
    (here.0, record { tags_are = here.1; slots_are = step.slots ∙ is.slots_are })

-- what is left once the number of a label is taken too
pub record IsBehindNumber (o : OutlineState) (number : ℕ) (behind : OutlineState) : Type 0 where
  pub taken : (k : ℕ) (rest : List ℕ) → o.slots ≡ k ∷ rest → (number ≡ k) × (behind.slots ≡ rest)
  pub tags : behind.tags ≡ o.tags

labelled : (k : ℕ) (p : Piece Scalar) (ts : List (Token ℕ Scalar)) (o : OutlineState) (tag : ℕ) (between : OutlineState) (number : ℕ) (behind : OutlineState) → IsOutlineOf (token (Some k) p ∷ ts) o → IsBehindTag o tag between → IsBehindNumber between number behind
    → (tag ≡ piece_tag p) × (number ≡ k) × IsOutlineOf ts behind
labelled k p ts o tag between number behind is step next =
    let here = token_taken (Some k) p ts o tag between is step in
    let got = next.taken k (labels ts) (step.slots ∙ is.slots_are) in
    (here.0, got.0, record { tags_are = next.tags ∙ here.1; slots_are = got.1 })

-- ---- the items of an array

module _ (names : List Name) (more : List (Token ℕ Scalar)) (o : OutlineState) (tag : ℕ) (behind : OutlineState) (step : IsBehindTag o tag behind) where
  -- a close
  pub items_done : (xs : Items ℕ Scalar) → IsOutlineOf (items_preorder xs ++ token None closed ∷ more) o → tag ≡ 7 → (true ≡ are_items_ordered names xs) × IsOutlineOf more behind
  items_done no_items is closes = (refl, (unlabelled closed more o tag behind is step).1)
  items_done (item t ts) is closes =
      let here = unlabelled (first_piece t) (behind_first t (items_preorder ts ++ token None closed ∷ more)) o tag behind (subst (λ us. IsOutlineOf us o) (first_item t ts (token None closed ∷ more)) is) step in
      not_closed t (sym closes ∙ here.0)

  -- or a value, that is passed or not
  module _ (passes : Bool) (last : OutlineState) (told : (t : NumberedTree) (more : List (Token ℕ Scalar)) → tag ≡ piece_tag (first_piece t) → IsOutlineOf (behind_first t more) behind → passes ≡ is_ordered names t)
      (left : (t : NumberedTree) (xs : Items ℕ Scalar) → tag ≡ piece_tag (first_piece t) → IsOutlineOf (behind_first t (items_preorder xs ++ token None closed ∷ more)) behind → IsTrue passes → IsBehindOrdered names xs more last) (further : tag ≡ 7 → ⊥) where
    pub items_fail : (xs : Items ℕ Scalar) → IsOutlineOf (items_preorder xs ++ token None closed ∷ more) o → passes ≡ false → false ≡ are_items_ordered names xs
    items_fail no_items is fails = absurd (further (unlabelled closed more o tag behind is step).0)
    items_fail (item t ts) is fails =
        let here = unlabelled (first_piece t) (behind_first t (items_preorder ts ++ token None closed ∷ more)) o tag behind (subst (λ us. IsOutlineOf us o) (first_item t ts (token None closed ∷ more)) is) step in
        let same : is_ordered names t ≡ false = sym (told t (items_preorder ts ++ token None closed ∷ more) here.0 here.1) ∙ fails in
        rw same refl

    pub items_next : (xs : Items ℕ Scalar) → IsOutlineOf (items_preorder xs ++ token None closed ∷ more) o → passes ≡ true → IsBehindOrdered names xs more last
    items_next no_items is holds = absurd (further (unlabelled closed more o tag behind is step).0)
    items_next (item t ts) is holds =
        let here = unlabelled (first_piece t) (behind_first t (items_preorder ts ++ token None closed ∷ more)) o tag behind (subst (λ us. IsOutlineOf us o) (first_item t ts (token None closed ∷ more)) is) step in
        let same : is_ordered names t ≡ true = sym (told t (items_preorder ts ++ token None closed ∷ more) here.0 here.1) ∙ holds in
        let rest = left t ts here.0 here.1 holds in
        let all : are_items_ordered names ts ≡ are_items_ordered names (item t ts) = rw same refl in
        record { left = rest.left; passed = rest.passed ∙ all; stands = rest.stands }

-- ---- the members of an object

module _ (names : List Name) (more : List (Token ℕ Scalar)) (o : OutlineState) (tag : ℕ) (between : OutlineState) (step : IsBehindTag o tag between) (before : Option Name) where
  pub members_done : (ms : Members ℕ Scalar) → IsOutlineOf (members_preorder ms ++ token None closed ∷ more) o → tag ≡ 7 → (true ≡ are_members_ordered names before ms) × IsOutlineOf more between
  members_done no_members is closes = (refl, (unlabelled closed more o tag between is step).1)
  members_done (member k t ms) is closes =
      let here = token_taken (Some k) (first_piece t) (behind_first t (members_preorder ms ++ token None closed ∷ more)) o tag between (subst (λ us. IsOutlineOf us o) (first_member k t ms (token None closed ∷ more)) is) step in
      not_closed t (sym closes ∙ here.0)

  module _ (number : ℕ) (behind : OutlineState) (next : IsBehindNumber between number behind) (further : tag ≡ 7 → ⊥) where
    pub names_fail : (ms : Members ℕ Scalar) → IsOutlineOf (members_preorder ms ++ token None closed ∷ more) o → is_above before (name_at names number) ≡ false → false ≡ are_members_ordered names before ms
    names_fail no_members is fails = absurd (further (unlabelled closed more o tag between is step).0)
    names_fail (member k t ms) is fails =
        let here = labelled k (first_piece t) (behind_first t (members_preorder ms ++ token None closed ∷ more)) o tag between number behind (subst (λ us. IsOutlineOf us o) (first_member k t ms (token None closed ∷ more)) is) step next in
        let above : is_above before (name_at names k) ≡ false = ap (λ n. is_above before (name_at names n)) (sym here.1) ∙ fails in
        rw above refl

    module _ (passes : Bool) (last : OutlineState) (told : (t : NumberedTree) (more : List (Token ℕ Scalar)) → tag ≡ piece_tag (first_piece t) → IsOutlineOf (behind_first t more) behind → passes ≡ is_ordered names t)
        (left : (t : NumberedTree) (more : List (Token ℕ Scalar)) → tag ≡ piece_tag (first_piece t) → IsOutlineOf (behind_first t more) behind → IsTrue passes → IsOutlineOf more last) (holds_above : is_above before (name_at names number) ≡ true) where
      pub members_fail : (ms : Members ℕ Scalar) → IsOutlineOf (members_preorder ms ++ token None closed ∷ more) o → passes ≡ false → false ≡ are_members_ordered names before ms
      members_fail no_members is fails = absurd (further (unlabelled closed more o tag between is step).0)
      members_fail (member k t ms) is fails =
          let here = labelled k (first_piece t) (behind_first t (members_preorder ms ++ token None closed ∷ more)) o tag between number behind (subst (λ us. IsOutlineOf us o) (first_member k t ms (token None closed ∷ more)) is) step next in
          let above : is_above before (name_at names k) ≡ true = ap (λ n. is_above before (name_at names n)) (sym here.1) ∙ holds_above in
          let same : is_ordered names t ≡ false = sym (told t (members_preorder ms ++ token None closed ∷ more) here.0 here.2) ∙ fails in
          rw (above, same) refl

      pub members_next : (ms : Members ℕ Scalar) → IsOutlineOf (members_preorder ms ++ token None closed ∷ more) o → passes ≡ true
          → (ns : Members ℕ Scalar) × (are_members_ordered names (Some (name_at names number)) ns ≡ are_members_ordered names before ms) × IsOutlineOf (members_preorder ns ++ token None closed ∷ more) last
      members_next no_members is holds = absurd (further (unlabelled closed more o tag between is step).0)
      members_next (member k t ms) is holds =
          let here = labelled k (first_piece t) (behind_first t (members_preorder ms ++ token None closed ∷ more)) o tag between number behind (subst (λ us. IsOutlineOf us o) (first_member k t ms (token None closed ∷ more)) is) step next in
          let above : is_above before (name_at names k) ≡ true = ap (λ n. is_above before (name_at names n)) (sym here.1) ∙ holds_above in
          let same : is_ordered names t ≡ true = sym (told t (members_preorder ms ++ token None closed ∷ more) here.0 here.2) ∙ holds in
          (ms, rw (above, same) (ap (λ n. are_members_ordered names (Some (name_at names n)) ms) here.1), left t (members_preorder ms ++ token None closed ∷ more) here.0 here.2 holds)

-- ---- a whole tree

pub tree_first : (n : NumberedTree) (o : OutlineState) (tag : ℕ) (behind : OutlineState) → IsOutlineOf (tokens_of n) o → IsBehindTag o tag behind → (tag ≡ piece_tag (first_piece n)) × IsOutlineOf (behind_first n []) behind
tree_first n o tag behind is step = unlabelled (first_piece n) (behind_first n []) o tag behind (subst (λ ts. IsOutlineOf ts o) (sym (append-nil (tokens_of n)) ∙ first_token None n []) is) step

pub tree_some : {A : Type 0} (n : NumberedTree) (o : OutlineState) → IsOutlineOf (tokens_of n) o → o.tags ≡ [] → A
tree_some n o is none =
    let first : tags (tokens_of n) ≡ piece_tag (first_piece n) ∷ tags (behind_first n []) = ap tags (sym (append-nil (tokens_of n)) ∙ first_token None n []) in
    let never : [] ≡ piece_tag (first_piece n) ∷ tags (behind_first n []) = sym none ∙ is.tags_are ∙ first in
    cc
