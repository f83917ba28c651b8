-- Trees whose tokens have the same tags and the same numbers differ in their scalars alone.
use Rattle.std.proofs.Common.{◌≡◌, ◌∙◌, ◌<◌, ◌==◌, ℕ, if◌then◌else◌, List, [], ◌∷◌, ◌++◌, Option, None, Some, is_some, option_to_list, refl, sym, ap, subst, append_assoc, append-nil, arith}
use Rattle.tc_model.specs.Tree.{Tree, leaf, array, object, Items, no_items, item, Members, no_members, member, relabel, items_relabel, members_relabel}
use Rattle.tc_model.specs.Document.{Scalar, ScalarKind, null_kind, boolean_kind, integer_kind, text_kind, scalar_kind}
use Rattle.tc_model.specs.Kinds.{scalar_tag}
use Rattle.tc_record.specs.Preorder.{closed, Token, token, tokens_of, preorder, items_preorder, members_preorder}
use Rattle.tc_record.specs.Record.{tags, labels, NumberedTree}
use Rattle.tc_alike.specs.Alike.{AreAlike}

abbrev Tokens : Type 0
Tokens = List (Token ℕ Scalar)

-- the tree with the kinds of its scalars in their places
abbrev pub outline : NumberedTree → Tree ℕ ScalarKind
outline n = relabel (λ k. k) scalar_kind n

-- ---- the first token of each

heads : {A : Type 0} {x y : A} {xs ys : List A} → x ∷ xs ≡ y ∷ ys → (x ≡ y) × (xs ≡ ys)
heads e = (cc, cc)

first_numbers : (l m : Option ℕ) (xs ys : List ℕ) → is_some l ≡ is_some m → option_to_list l ++ xs ≡ option_to_list m ++ ys → (l ≡ m) × (xs ≡ ys)
first_numbers None None xs ys both e = (refl, e)
first_numbers None (Some k) xs ys both e = absurd (cc)
first_numbers (Some j) None xs ys both e = absurd (cc)
first_numbers (Some j) (Some k) xs ys both e = let parts = heads e in (ap Some parts.0, parts.1)

abbrev kind_tagged : ℕ → ScalarKind
kind_tagged n = if n == 1 then null_kind else (if n == 2 then boolean_kind else (if n == 3 then integer_kind else text_kind))

tagged : (k : ScalarKind) → kind_tagged (scalar_tag k) ≡ k
tagged null_kind = refl
tagged boolean_kind = refl
tagged integer_kind = refl
tagged text_kind = refl

no_scalar : (k : ScalarKind) → 4 < scalar_tag k → ⊥
no_scalar null_kind more = omega (arith, more)
no_scalar boolean_kind more = omega (arith, more)
no_scalar integer_kind more = omega (arith, more)
no_scalar text_kind more = omega (arith, more)

-- a value does not begin with the tag of a close
no_close : (l : Option ℕ) (t : NumberedTree) (more : Tokens) (ns : List ℕ) → 7 ∷ ns ≡ tags (preorder l t ++ more) → ⊥
no_close l (leaf s) more ns e = no_scalar (scalar_kind s) (let same = (heads e).0 in omega (arith, same))
no_close l (array xs) more ns e = let same = (heads e).0 in omega (arith, same)
no_close l (object ms) more ns e = let same = (heads e).0 in omega (arith, same)

-- ---- values, one by one

-- values alike, and what is behind them
record Goes {A : Type 0} (a b : A) (ts us : Tokens) : Type 0 where
  same : a ≡ b
  behind : AreAlike ts us

regrouped : (a b c d e f : Tokens) → AreAlike ((a ++ b) ++ c) ((d ++ e) ++ f) → AreAlike (a ++ (b ++ c)) (d ++ (e ++ f))
regrouped a b c d e f alike = subst (λ ts. AreAlike ts (d ++ (e ++ f))) (append_assoc a b c) (subst (AreAlike ((a ++ b) ++ c)) (append_assoc d e f) alike)

-- what an array or an object holds, up to its close
held_alike : (inner other : Tokens) (l m : Option ℕ) (ts us : Tokens) → is_some l ≡ is_some m
    → tags ((inner ++ token None closed ∷ []) ++ ts) ≡ tags ((other ++ token None closed ∷ []) ++ us) → option_to_list l ++ labels ((inner ++ token None closed ∷ []) ++ ts) ≡ option_to_list m ++ labels ((other ++ token None closed ∷ []) ++ us)
    → (l ≡ m) × AreAlike (inner ++ token None closed ∷ ts) (other ++ token None closed ∷ us)
held_alike inner other l m ts us both tags_are numbers_are =
    let number = first_numbers l m _ _ both numbers_are in
    (number.0, regrouped inner (token None closed ∷ []) ts other (token None closed ∷ []) us (record { tags_are = tags_are; numbers_are = number.1 }))

mutual
  trees_alike : (a b : NumberedTree) (l m : Option ℕ) (ts us : Tokens) → is_some l ≡ is_some m → AreAlike (preorder l a ++ ts) (preorder m b ++ us) → (l ≡ m) × Goes (outline a) (outline b) ts us
  trees_alike (leaf s) (leaf t) l m ts us both alike =
      let tag = heads alike.tags_are in
      let number = first_numbers l m (labels ts) (labels us) both alike.numbers_are in
      (number.0, record { same = ap leaf (sym (tagged (scalar_kind s)) ∙ ap kind_tagged tag.0 ∙ tagged (scalar_kind t)); behind = record { tags_are = tag.1; numbers_are = number.1 } })
  trees_alike (leaf s) (array ys) l m ts us both alike = absurd (no_scalar (scalar_kind s) (let same = (heads alike.tags_are).0 in omega (arith, same)))
  trees_alike (leaf s) (object ns) l m ts us both alike = absurd (no_scalar (scalar_kind s) (let same = (heads alike.tags_are).0 in omega (arith, same)))
  trees_alike (array xs) (leaf t) l m ts us both alike = absurd (no_scalar (scalar_kind t) (let same = (heads alike.tags_are).0 in omega (arith, same)))
  trees_alike (array xs) (array ys) l m ts us both alike =
      let held = held_alike (items_preorder xs) (items_preorder ys) l m ts us both (heads alike.tags_are).1 alike.numbers_are in
      let inner = items_alike xs ys ts us held.1 in
      (held.0, record { same = ap array inner.same; behind = inner.behind })
  trees_alike (array xs) (object ns) l m ts us both alike = absurd (let same = (heads alike.tags_are).0 in omega (arith, same))
  trees_alike (object ms) (leaf t) l m ts us both alike = absurd (no_scalar (scalar_kind t) (let same = (heads alike.tags_are).0 in omega (arith, same)))
  trees_alike (object ms) (array ys) l m ts us both alike = absurd (let same = (heads alike.tags_are).0 in omega (arith, same))
  trees_alike (object ms) (object ns) l m ts us both alike =
      let held = held_alike (members_preorder ms) (members_preorder ns) l m ts us both (heads alike.tags_are).1 alike.numbers_are in
      let inner = members_alike ms ns ts us held.1 in
      (held.0, record { same = ap object inner.same; behind = inner.behind })

  items_alike : (xs ys : Items ℕ Scalar) (ts us : Tokens) → AreAlike (items_preorder xs ++ token None closed ∷ ts) (items_preorder ys ++ token None closed ∷ us) → Goes (items_relabel (λ k. k) scalar_kind xs) (items_relabel (λ k. k) scalar_kind ys) ts us
  items_alike no_items no_items ts us alike = record { same = refl; behind = record { tags_are = (heads alike.tags_are).1; numbers_are = alike.numbers_are } }
  items_alike no_items (item b ys) ts us alike =
      absurd (no_close None b (items_preorder ys ++ token None closed ∷ us) (tags ts) (alike.tags_are ∙ ap tags (append_assoc (preorder None b) (items_preorder ys) (token None closed ∷ us))))
  items_alike (item a xs) no_items ts us alike =
      absurd (no_close None a (items_preorder xs ++ token None closed ∷ ts) (tags us) (sym alike.tags_are ∙ ap tags (append_assoc (preorder None a) (items_preorder xs) (token None closed ∷ ts))))
  items_alike (item a xs) (item b ys) ts us alike =
      let first = trees_alike a b None None _ _ refl (regrouped (preorder None a) (items_preorder xs) _ (preorder None b) (items_preorder ys) _ alike) in
      let more = items_alike xs ys ts us first.1.behind in
      record { same = rw (first.1.same, more.same) refl; behind = more.behind }

  members_alike : (ms ns : Members ℕ Scalar) (ts us : Tokens) → AreAlike (members_preorder ms ++ token None closed ∷ ts) (members_preorder ns ++ token None closed ∷ us) → Goes (members_relabel (λ k. k) scalar_kind ms) (members_relabel (λ k. k) scalar_kind ns) ts us
  members_alike no_members no_members ts us alike = record { same = refl; behind = record { tags_are = (heads alike.tags_are).1; numbers_are = alike.numbers_are } }
  members_alike no_members (member k b ns) ts us alike =
      absurd (no_close (Some k) b (members_preorder ns ++ token None closed ∷ us) (tags ts) (alike.tags_are ∙ ap tags (append_assoc (preorder (Some k) b) (members_preorder ns) (token None closed ∷ us))))
  members_alike (member j a ms) no_members ts us alike =
      absurd (no_close (Some j) a (members_preorder ms ++ token None closed ∷ ts) (tags us) (sym alike.tags_are ∙ ap tags (append_assoc (preorder (Some j) a) (members_preorder ms) (token None closed ∷ ts))))
  members_alike (member j a ms) (member k b ns) ts us alike =
      let first = trees_alike a b (Some j) (Some k) _ _ refl (regrouped (preorder (Some j) a) (members_preorder ms) _ (preorder (Some k) b) (members_preorder ns) _ alike) in
      let more = members_alike ms ns ts us first.1.behind in
      let numbers : j ≡ k = let both = first.0 in cc in
      record { same = rw (numbers, first.1.same, more.same) refl; behind = more.behind }

-- trees whose tokens are alike have one outline
pub same_outline : (a b : NumberedTree) → AreAlike (tokens_of a) (tokens_of b) → outline a ≡ outline b
same_outline a b alike =
    (trees_alike a b None None [] [] refl (subst (λ ts. AreAlike ts (preorder None b ++ [])) (sym (append-nil (tokens_of a))) (subst (AreAlike (tokens_of a)) (sym (append-nil (tokens_of b))) alike))).1.same
