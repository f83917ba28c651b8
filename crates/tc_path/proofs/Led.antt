-- Where hops lead by the kinds of a tree's values: to the value that they reach, as it stands among the tree's tokens.
use Rattle.std.proofs.Common.{◌≡◌, ◌∙◌, ◌+◌, ◌==◌, ℕ, Bool, true, false, if◌then◌else◌, List, [], ◌∷◌, ◌++◌, Option, None, Some, length, drop, flat_map, subst, refl, sym, ap, arith, append-nil}
use Rattle.std.proofs.lemmas.List.{length-append, append_assoc, drop_at}
use Rattle.std.proofs.lemmas.List.Concat.{flat_map-append}
use Rattle.tc_model.specs.Tree.{leaf, array, object, Items, no_items, item, Members, no_members, member}
use Rattle.tc_model.specs.Document.{Scalar, null, boolean, integer, text}
use Rattle.tc_record.specs.Preorder.{object_opened, closed, Token, token, preorder, items_preorder, members_preorder, tokens_of}
use Rattle.tc_record.specs.Record.{NumberedTree, IsNumberedTree, AreNumberedMembers, piece_text, piece_fixed, texts, fixed}
use Rattle.tc_record.specs.Borrowed.{numbered_tokens}
use Rattle.tc_record.specs.Walk.{number}
use Rattle.tc_record.proofs.Keyed.{preorder-relabel, texts-retoken, fixed-retoken}
use Rattle.tc_path.specs.Leads.{kinds_in, items_kinds, members_kinds, tag_of, texts_in, items_texts, members_texts, fixed_in, items_fixed, members_fixed, lead_from, lead_among}
use Rattle.tc_path.specs.Spots.{value_by, value_among, StandsAt}
use Rattle.tc_path.specs.declared.leading.Spot.{Spot}
use Rattle.tc_path.specs.declared.leading.Lead.{Lead}
use Rattle.tc_path.specs.declared.leading.Lead.TheVariants.{Unknown, Nowhere, To}

abbrev Tokens : Type 0
Tokens = List (Token ℕ Scalar)

-- ---- how many texts and fixed bytes tokens have

abbrev Have : Tokens → ℕ → ℕ → Type 0
Have ts x f = (length (texts ts) ≡ x) × (length (fixed ts) ≡ f)

have-append : (ts us : Tokens) (x f y g : ℕ) → Have ts x f → Have us y g → Have (ts ++ us) (x + y) (f + g)
have-append ts us x f y g first second =
    let in_texts = ap length (flat_map-append (λ t. piece_text t.piece) ts us) ∙ length-append (texts ts) (texts us) in
    let in_fixed = ap length (flat_map-append (λ t. piece_fixed t.piece) ts us) ∙ length-append (fixed ts) (fixed us) in
    (omega (arith, in_texts, first.0, second.0), omega (arith, in_fixed, first.1, second.1))

have-closed : (ts : Tokens) (x f : ℕ) → Have ts x f → Have (ts ++ token None closed ∷ []) x f
have-closed ts x f have = let all = have-append ts (token None closed ∷ []) x f 0 0 have (refl, refl) in (omega (arith, all.0), omega (arith, all.1))

mutual
  tree_has : (t : NumberedTree) (l : Option ℕ) → Have (preorder l t) (texts_in (kinds_in t)) (fixed_in (kinds_in t))
  tree_has (leaf null) l = (refl, refl)
  tree_has (leaf (boolean b)) l = (refl, refl)
  tree_has (leaf (integer z)) l = (refl, refl)
  tree_has (leaf (text s)) l = (refl, refl)
  tree_has (array xs) l = have-closed (items_preorder xs) (items_texts (items_kinds xs)) (items_fixed (items_kinds xs)) (items_have xs)
  tree_has (object ms) l = have-closed (members_preorder ms) (members_texts (members_kinds ms)) (members_fixed (members_kinds ms)) (members_have ms)

  items_have : (xs : Items ℕ Scalar) → Have (items_preorder xs) (items_texts (items_kinds xs)) (items_fixed (items_kinds xs))
  items_have no_items = (refl, refl)
  items_have (item t ts) =
      have-append (preorder None t) (items_preorder ts) (texts_in (kinds_in t)) (fixed_in (kinds_in t)) (items_texts (items_kinds ts)) (items_fixed (items_kinds ts)) (tree_has t None) (items_have ts)

  members_have : (ms : Members ℕ Scalar) → Have (members_preorder ms) (members_texts (members_kinds ms)) (members_fixed (members_kinds ms))
  members_have no_members = (refl, refl)
  members_have (member m t ms) =
      have-append (preorder (Some m) t) (members_preorder ms) (texts_in (kinds_in t)) (fixed_in (kinds_in t)) (members_texts (members_kinds ms)) (members_fixed (members_kinds ms)) (tree_has t (Some m)) (members_have ms)

-- ---- tokens among others, behind so many texts and fixed bytes

record Stand (all ts : Tokens) (x f : ℕ) : Type 0 where
  before : Tokens
  behind : Tokens
  are : all ≡ before ++ (ts ++ behind)
  passed : Have before x f

-- those of what an object holds
in_object : (all : Tokens) (l : Option ℕ) (ms : Members ℕ Scalar) (x f : ℕ) → Stand all (preorder l (object ms)) x f → Stand all (members_preorder ms) x f
in_object all l ms x f s =
    let open_token = token l object_opened ∷ [] in
    let close_token = token None closed ∷ [] in
    let passed = have-append s.before open_token x f 0 0 s.passed (refl, refl) in
    record {
      before = s.before ++ open_token;
      behind = close_token ++ s.behind;
      are = s.are ∙ ap (λ us. s.before ++ (token l object_opened ∷ us)) (append_assoc (members_preorder ms) close_token s.behind) ∙ sym (append_assoc s.before open_token (members_preorder ms ++ (close_token ++ s.behind)));
      passed = (omega (arith, passed.0), omega (arith, passed.1));
    }

-- the first of them, and those behind
first_stand : (all ts us : Tokens) (x f : ℕ) → Stand all (ts ++ us) x f → Stand all ts x f
first_stand all ts us x f s = record {
  before = s.before;
  behind = us ++ s.behind;
  are = s.are ∙ ap (λ vs. s.before ++ vs) (append_assoc ts us s.behind);
  passed = s.passed;
}

others_stand : (all ts us : Tokens) (x f y g : ℕ) → Have ts y g → Stand all (ts ++ us) x f → Stand all us (x + y) (f + g)
others_stand all ts us x f y g have s = record {
  before = s.before ++ ts;
  behind = s.behind;
  are = s.are ∙ ap (λ vs. s.before ++ vs) (append_assoc ts us s.behind) ∙ sym (append_assoc s.before ts (us ++ s.behind));
  passed = have-append s.before ts x f y g s.passed have;
}

-- ---- where hops lead

-- a lawful value was reached, and its tokens stand there
record Reaches (all : Tokens) (tag x f : ℕ) (o : Option NumberedTree) : Type 0 where
  pub tree : NumberedTree
  pub is : o ≡ Some tree
  pub lawful : IsNumberedTree tree
  pub tagged : tag ≡ tag_of (kinds_in tree)
  pub label : Option ℕ
  pub stand : Stand all (preorder label tree) x f

-- a lead tells what is reached
abbrev Tells : Tokens → Lead → Option NumberedTree → Type 0
Tells all Unknown o = ⊥
Tells all Nowhere o = o ≡ None
Tells all (To s) o = Reaches all s.tag s.texts s.fixed o

module _ (all : Tokens) where
  mutual
    tells : (n : NumberedTree) (hops : List ℕ) (l : Option ℕ) (x f : ℕ) → IsNumberedTree n → Stand all (preorder l n) x f → Tells all (lead_from hops (kinds_in n) x f) (value_by hops n)
    tells (leaf s) [] l x f lawful stand = record { tree = leaf s; is = refl; lawful = lawful; tagged = refl; label = l; stand = stand }
    tells (array xs) [] l x f lawful stand = record { tree = array xs; is = refl; lawful = lawful; tagged = refl; label = l; stand = stand }
    tells (object ms) [] l x f lawful stand = record { tree = object ms; is = refl; lawful = lawful; tagged = refl; label = l; stand = stand }
    tells (leaf s) (k ∷ ks) l x f lawful stand = refl
    tells (array xs) (k ∷ ks) l x f lawful stand = refl
    tells (object ms) (k ∷ ks) l x f lawful stand = tells_among ms k ks x f lawful (in_object all l ms x f stand)

    tells_among : (ms : Members ℕ Scalar) (k : ℕ) (ks : List ℕ) (x f : ℕ) → AreNumberedMembers ms → Stand all (members_preorder ms) x f → Tells all (lead_among k ks (members_kinds ms) x f) (value_among k ks ms)
    tells_among no_members k ks x f lawful stand = refl
    tells_among (member m t ms) k ks x f lawful stand =
        let here = tells t ks (Some m) x f lawful.1 (first_stand all (preorder (Some m) t) (members_preorder ms) x f stand) in
        let others = others_stand all (preorder (Some m) t) (members_preorder ms) x f (texts_in (kinds_in t)) (fixed_in (kinds_in t)) (tree_has t (Some m)) stand in
        either (m == k) (lead_from ks (kinds_in t) x f) (lead_among k ks (members_kinds ms) (x + texts_in (kinds_in t)) (f + fixed_in (kinds_in t))) (value_by ks t) (value_among k ks ms) here
        (tells_among ms k ks (x + texts_in (kinds_in t)) (f + fixed_in (kinds_in t)) lawful.2 others)
      where
        either : (b : Bool) (one other : Lead) (o p : Option NumberedTree) → Tells all one o → Tells all other p → Tells all (if b then one else other) (if b then o else p)
        either true one other o p first second = first
        either false one other o p first second = second

-- ---- in a whole record

-- what stands in a column from there on
column_at : {X : Type 0} (column : Token ℕ Scalar → List X) (all before ts behind : Tokens) (n : ℕ) → all ≡ before ++ (ts ++ behind) → length (flat_map column before) ≡ n
    → drop n (flat_map column all) ≡ flat_map column ts ++ flat_map column behind
column_at column all before ts behind n are passed =
    ap (λ us. drop n (flat_map column us)) are
    ∙ ap (drop n) (flat_map-append column before (ts ++ behind))
    ∙ drop_at (flat_map column before) (flat_map column (ts ++ behind)) n passed
    ∙ flat_map-append column ts behind

-- a label adds to neither column
same_texts : (t : NumberedTree) (l : Option ℕ) → texts (preorder l t) ≡ texts (tokens_of t)
same_texts (leaf s) l = refl
same_texts (array xs) l = refl
same_texts (object ms) l = refl

same_fixed : (t : NumberedTree) (l : Option ℕ) → fixed (preorder l t) ≡ fixed (tokens_of t)
same_fixed (leaf s) l = refl
same_fixed (array xs) l = refl
same_fixed (object ms) l = refl

told : (n : NumberedTree) (hops : List ℕ) (lead : Lead) → IsNumberedTree n → lead ≡ lead_from hops (kinds_in n) 0 0 → Tells (tokens_of n) lead (value_by hops n)
told n hops lead lawful is =
    let stand : Stand (tokens_of n) (tokens_of n) 0 0 = record { before = []; behind = []; are = sym (append-nil (tokens_of n)); passed = (refl, refl) } in
    subst (λ led. Tells (tokens_of n) led (value_by hops n)) (sym is) (tells (tokens_of n) n hops None 0 0 lawful stand)

-- a lead to no value
pub led_nowhere : (n : NumberedTree) (hops : List ℕ) → IsNumberedTree n → Nowhere ≡ lead_from hops (kinds_in n) 0 0 → value_by hops n ≡ None
led_nowhere n hops lawful is = told n hops Nowhere lawful is

-- a lead to one: it stands there
pub led_to : (n : NumberedTree) (hops : List ℕ) (s : Spot) → IsNumberedTree n → To s ≡ lead_from hops (kinds_in n) 0 0
    → (t : NumberedTree) × (value_by hops n ≡ Some t) × StandsAt (numbered_tokens n) s t
led_to n hops s lawful is =
    let ts = tokens_of n in
    let r = told n hops (To s) lawful is in
    let tokens = preorder-relabel number n None in
    let of_texts = column_at (λ t. piece_text t.piece) ts r.stand.before (preorder r.label r.tree) r.stand.behind s.texts r.stand.are r.stand.passed.0 in
    let of_fixed = column_at (λ t. piece_fixed t.piece) ts r.stand.before (preorder r.label r.tree) r.stand.behind s.fixed r.stand.are r.stand.passed.1 in (
      r.tree,
      r.is,
      record {
        lawful = r.lawful;
        tagged = r.tagged;
        more_texts = texts r.stand.behind;
        texts_are = ap (drop s.texts) (ap texts tokens ∙ texts-retoken number ts) ∙ of_texts ∙ ap (λ us. us ++ texts r.stand.behind) (same_texts r.tree r.label);
        more_fixed = fixed r.stand.behind;
        fixed_are = ap (drop s.fixed) (ap fixed tokens ∙ fixed-retoken number ts) ∙ of_fixed ∙ ap (λ us. us ++ fixed r.stand.behind) (same_fixed r.tree r.label);
      },
    )
