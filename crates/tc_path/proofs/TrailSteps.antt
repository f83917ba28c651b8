-- Steps of a walk over the tags and the numbers of a record: its values, one after the other, up to the close of what holds them.
use Rattle.std.proofs.Common.{◌≡◌, ◌≤◌, ◌∙◌, ◌+◌, ◌==◌, if◌then◌else◌, ℕ, List, [], ◌∷◌, ◌++◌, Option, None, Some, refl, sym, ap, subst, append_assoc, add_assoc, add-zero, arith}
use Rattle.std.proofs.lemmas.Bool.Decides.{nat_tests}
use Rattle.tc_model.specs.Document.{Scalar, null, boolean, integer, text, scalar_kind}
use Rattle.tc_model.specs.Kinds.{scalar_tag}
use Rattle.tc_model.specs.Tree.{leaf, array, object, Items, no_items, item, Members, no_members, member}
use Rattle.tc_record.specs.Preorder.{Piece, array_opened, object_opened, closed, Token, token, tokens_of, preorder, items_preorder, members_preorder}
use Rattle.tc_record.specs.Record.{piece_tag, tags, labels, NumberedTree}
use Rattle.tc_path.specs.Leads.{tag_of, kinds_in, items_kinds, members_kinds, texts_in, items_texts, members_texts, fixed_in, items_fixed, members_fixed}
use Rattle.tc_path.specs.Trails.{TrailState, IsTrailOf, IsTaken, Passes}

-- ---- a tag that is taken

-- what is left once a tag is taken, which passes nothing of the other columns
pub record IsBehindTag (old : TrailState) (tag : ℕ) (new : TrailState) : Type 0 where
  pub taken : old.tags ≡ tag ∷ new.tags
  pub slots : new.slots ≡ old.slots
  pub texts : new.texts ≡ old.texts
  pub fixed : new.fixed ≡ old.fixed

-- what is left once the number of a member is taken too
pub record IsBehindNumber (old : TrailState) (number : ℕ) (new : TrailState) : Type 0 where
  pub taken : (k : ℕ) (rest : List ℕ) → old.slots ≡ k ∷ rest → (number ≡ k) × (new.slots ≡ rest)
  pub tags : new.tags ≡ old.tags
  pub texts : new.texts ≡ old.texts
  pub fixed : new.fixed ≡ old.fixed

pub taken : (ts : List (Token ℕ Scalar)) (old : TrailState) (tag : ℕ) (new : TrailState) → IsTrailOf ts old → IsBehindTag old tag new → IsTaken tag ts new
taken ts old tag new is step = record { tags_are = sym step.taken ∙ is.tags_are; slots_are = step.slots ∙ is.slots_are }

-- the tag is that of the token in front
front : {l : Option ℕ} {p : Piece Scalar} {ts : List (Token ℕ Scalar)} {tag : ℕ} {new : TrailState} → IsTaken tag (token l p ∷ ts) new → (tag ≡ piece_tag p) × (new.tags ≡ tags ts)
front is = let all = is.tags_are in (cc, cc)

pub close_taken : (more : List (Token ℕ Scalar)) (tag : ℕ) (new : TrailState) → IsTaken tag (token None closed ∷ more) new → (tag ≡ 7) × IsTrailOf more new
close_taken more tag new is = let parts = front is in (parts.0, record { tags_are = parts.1; slots_are = is.slots_are })

-- the tag of a scalar is below those of all else
pub scalar_low : (s : Scalar) → scalar_tag (scalar_kind s) ≤ 4
scalar_low null = omega arith
scalar_low (boolean b) = omega arith
scalar_low (integer z) = omega arith
scalar_low (text s) = omega arith

-- a value does not begin with a close
not_closed : (l : Option ℕ) (n : NumberedTree) (more : List (Token ℕ Scalar)) (tag : ℕ) (new : TrailState) → IsTaken tag (preorder l n ++ more) new → tag ≡ 7 → ⊥
not_closed l (leaf s) more tag new is closes = let low = scalar_low s in let same = (front is).0 in omega (arith, low, same, closes)
not_closed l (array xs) more tag new is closes = let same = (front is).0 in omega (arith, same, closes)
not_closed l (object ms) more tag new is closes = let same = (front is).0 in omega (arith, same, closes)

-- the label of a value adds its number, and no tag
label_tags : (k : ℕ) (n : NumberedTree) (more : List (Token ℕ Scalar)) → tags (preorder (Some k) n ++ more) ≡ tags (tokens_of n ++ more)
label_tags k (leaf s) more = refl
label_tags k (array xs) more = refl
label_tags k (object ms) more = refl

label_numbers : (k : ℕ) (n : NumberedTree) (more : List (Token ℕ Scalar)) → labels (preorder (Some k) n ++ more) ≡ k ∷ labels (tokens_of n ++ more)
label_numbers k (leaf s) more = refl
label_numbers k (array xs) more = refl
label_numbers k (object ms) more = refl

-- the first value of an array or an object, and what is behind it
first_taken : (l : Option ℕ) (n : NumberedTree) (ts more : List (Token ℕ Scalar)) (tag : ℕ) (new : TrailState) → IsTaken tag ((preorder l n ++ ts) ++ more) new → IsTaken tag (preorder l n ++ (ts ++ more)) new
first_taken l n ts more tag new is = subst (λ us. IsTaken tag us new) (append_assoc (preorder l n) ts more) is

pub member_taken : (k : ℕ) (n : NumberedTree) (ms : Members ℕ Scalar) (more : List (Token ℕ Scalar)) (tag : ℕ) (between : TrailState) (number : ℕ) (new : TrailState)
    → IsTaken tag (members_preorder (member k n ms) ++ more) between → IsBehindNumber between number new → (k ≡ number) × IsTaken tag (tokens_of n ++ (members_preorder ms ++ more)) new
member_taken k n ms more tag between number new is next =
    let first = first_taken (Some k) n (members_preorder ms) more tag between is in
    let got = next.taken k _ (first.slots_are ∙ label_numbers k n (members_preorder ms ++ more)) in
    (sym got.0, record { tags_are = ap (λ ts. tag ∷ ts) next.tags ∙ first.tags_are ∙ label_tags k n (members_preorder ms ++ more); slots_are = got.1 })

-- ---- a value whose tag was taken

-- what an array or an object holds, up to its close
pub held : (p : Piece Scalar) (inner more : List (Token ℕ Scalar)) (tag : ℕ) (trail : TrailState) → IsTaken tag ((token None p ∷ (inner ++ token None closed ∷ [])) ++ more) trail → IsTrailOf (inner ++ token None closed ∷ more) trail
held p inner more tag trail is =
    let same = append_assoc inner (token None closed ∷ []) more in
    record { tags_are = (front is).1 ∙ ap tags same; slots_are = is.slots_are ∙ ap labels same }

-- the tag that was taken is that of the value
pub own_tag : (n : NumberedTree) (more : List (Token ℕ Scalar)) (tag : ℕ) (trail : TrailState) → IsTaken tag (tokens_of n ++ more) trail → tag ≡ tag_of (kinds_in n)
own_tag (leaf s) more tag trail is = (front is).0
own_tag (array xs) more tag trail is = (front is).0
own_tag (object ms) more tag trail is = (front is).0

-- how many texts and fixed bytes a scalar of a tag has
abbrev tag_texts : ℕ → ℕ
tag_texts tag = if tag == 4 then 1 else 0

abbrev tag_fixed : ℕ → ℕ
tag_fixed tag = if tag == 3 then 8 else (if tag == 2 then 1 else 0)

-- only the counts change, by what a scalar of a tag has
pub record Counts (tag : ℕ) (old new : TrailState) : Type 0 where
  pub not_array : tag ≡ 5 → ⊥
  pub not_object : tag ≡ 6 → ⊥
  pub tags_are : new.tags ≡ old.tags
  pub slots_are : new.slots ≡ old.slots
  pub texts_are : new.texts ≡ old.texts + tag_texts tag
  pub fixed_are : new.fixed ≡ old.fixed + tag_fixed tag

-- what is taken out of a trail and put back
module _ (inside old : TrailState) (same : inside ≡ old) (tag : ℕ) where
  pub text_counted : tag ≡ 4 → Counts tag old (record inside { texts = inside.texts + 1 })
  text_counted is = rw (← same, is) (record { not_array = λ e. omega (arith, e); not_object = λ e. omega (arith, e); tags_are = refl; slots_are = refl; texts_are = refl; fixed_are = sym (add-zero inside.fixed) })

  pub integer_counted : tag ≡ 3 → Counts tag old (record inside { fixed = inside.fixed + 8 })
  integer_counted is = rw (← same, is) (record { not_array = λ e. omega (arith, e); not_object = λ e. omega (arith, e); tags_are = refl; slots_are = refl; texts_are = sym (add-zero inside.texts); fixed_are = refl })

  pub boolean_counted : tag ≡ 2 → Counts tag old (record inside { fixed = inside.fixed + 1 })
  boolean_counted is = rw (← same, is) (record { not_array = λ e. omega (arith, e); not_object = λ e. omega (arith, e); tags_are = refl; slots_are = refl; texts_are = sym (add-zero inside.texts); fixed_are = refl })

pub nothing_counted : (old : TrailState) (tag : ℕ) → (tag ≡ 4 → ⊥) → (tag ≡ 3 → ⊥) → (tag ≡ 2 → ⊥) → (tag ≡ 5 → ⊥) → (tag ≡ 6 → ⊥) → Counts tag old old
nothing_counted old tag not_text not_integer not_boolean not_array not_object = record {
  not_array = not_array;
  not_object = not_object;
  tags_are = refl;
  slots_are = refl;
  texts_are = grind (arith, nat_tests);
  fixed_are = grind (arith, nat_tests);
}

module _ (more : List (Token ℕ Scalar)) (old new : TrailState) where
  passed_by : (own : ℕ) (tag : ℕ) → (tag ≡ own) × (old.tags ≡ tags more) → old.slots ≡ labels more → Counts tag old new → Passes more (tag_texts own) (tag_fixed own) old new
  passed_by own tag parts slots counts = record {
    left = record { tags_are = counts.tags_are ∙ parts.1; slots_are = counts.slots_are ∙ slots };
    texts_are = counts.texts_are ∙ ap (λ n. old.texts + tag_texts n) parts.0;
    fixed_are = counts.fixed_are ∙ ap (λ n. old.fixed + tag_fixed n) parts.0;
  }

  -- a scalar is passed by its tag
  pub scalar_passed : (n : NumberedTree) (tag : ℕ) → IsTaken tag (tokens_of n ++ more) old → Counts tag old new → Passes more (texts_in (kinds_in n)) (fixed_in (kinds_in n)) old new
  scalar_passed (leaf null) tag is counts = passed_by 1 tag (front is) is.slots_are counts
  scalar_passed (leaf (boolean b)) tag is counts = passed_by 2 tag (front is) is.slots_are counts
  scalar_passed (leaf (integer z)) tag is counts = passed_by 3 tag (front is) is.slots_are counts
  scalar_passed (leaf (text s)) tag is counts = passed_by 4 tag (front is) is.slots_are counts
  scalar_passed (array xs) tag is counts = absurd (counts.not_array (front is).0)
  scalar_passed (object ms) tag is counts = absurd (counts.not_object (front is).0)

  -- an array or an object by what it holds
  pub array_passed : (n : NumberedTree) (tag : ℕ) → IsTaken tag (tokens_of n ++ more) old → tag ≡ 5
      → ((xs : Items ℕ Scalar) (more : List (Token ℕ Scalar)) → IsTrailOf (items_preorder xs ++ token None closed ∷ more) old → Passes more (items_texts (items_kinds xs)) (items_fixed (items_kinds xs)) old new)
      → Passes more (texts_in (kinds_in n)) (fixed_in (kinds_in n)) old new
  array_passed (leaf s) tag is opens told = absurd (let low = scalar_low s in let same = (front is).0 in omega (arith, low, same, opens))
  array_passed (array xs) tag is opens told = told xs more (held array_opened (items_preorder xs) more tag old is)
  array_passed (object ms) tag is opens told = absurd (let same = (front is).0 in omega (arith, same, opens))

  pub object_passed : (n : NumberedTree) (tag : ℕ) → IsTaken tag (tokens_of n ++ more) old → tag ≡ 6
      → ((ms : Members ℕ Scalar) (more : List (Token ℕ Scalar)) → IsTrailOf (members_preorder ms ++ token None closed ∷ more) old → Passes more (members_texts (members_kinds ms)) (members_fixed (members_kinds ms)) old new)
      → Passes more (texts_in (kinds_in n)) (fixed_in (kinds_in n)) old new
  object_passed (leaf s) tag is opens told = absurd (let low = scalar_low s in let same = (front is).0 in omega (arith, low, same, opens))
  object_passed (array xs) tag is opens told = absurd (let same = (front is).0 in omega (arith, same, opens))
  object_passed (object ms) tag is opens told = told ms more (held object_opened (members_preorder ms) more tag old is)

-- ---- the items of an array

-- these items are left of others: with what was passed they count as many
pub record ItemsLeft (ys xs : Items ℕ Scalar) (more : List (Token ℕ Scalar)) (old now : TrailState) : Type 0 where
  pub left : IsTrailOf (items_preorder ys ++ token None closed ∷ more) now
  pub texts_are : now.texts + items_texts (items_kinds ys) ≡ old.texts + items_texts (items_kinds xs)
  pub fixed_are : now.fixed + items_fixed (items_kinds ys) ≡ old.fixed + items_fixed (items_kinds xs)

module _ (xs : Items ℕ Scalar) (more : List (Token ℕ Scalar)) (old now : TrailState) (tag : ℕ) (new : TrailState) (step : IsBehindTag now tag new) where
  pub items_done : (ys : Items ℕ Scalar) → ItemsLeft ys xs more old now → tag ≡ 7 → Passes more (items_texts (items_kinds xs)) (items_fixed (items_kinds xs)) old new
  items_done no_items is closes = record {
    left = (close_taken more tag new (taken (token None closed ∷ more) now tag new is.left step)).1;
    texts_are = let before = step.texts in let all = is.texts_are in omega (arith, before, all);
    fixed_are = let before = step.fixed in let all = is.fixed_are in omega (arith, before, all);
  }
  items_done (item n ys) is closes = absurd (not_closed None n _ tag new (first_taken None n (items_preorder ys) (token None closed ∷ more) tag new (taken _ now tag new is.left step)) closes)

  pub items_next : (last : TrailState) → ((n : NumberedTree) (more : List (Token ℕ Scalar)) → IsTaken tag (tokens_of n ++ more) new → Passes more (texts_in (kinds_in n)) (fixed_in (kinds_in n)) new last) → (tag ≡ 7 → ⊥)
      → (ys : Items ℕ Scalar) → ItemsLeft ys xs more old now → (zs : Items ℕ Scalar) × ItemsLeft zs xs more old last
  items_next last passes further no_items is = absurd (further (close_taken more tag new (taken _ now tag new is.left step)).0)
  items_next last passes further (item n ys) is =
      let passed = passes n (items_preorder ys ++ token None closed ∷ more) (first_taken None n (items_preorder ys) (token None closed ∷ more) tag new (taken _ now tag new is.left step)) in
      let texts = is.texts_are in
      let fixed = is.fixed_are in (
        ys,
        record {
          left = passed.left;
          texts_are = let here = passed.texts_are in let before = step.texts in omega (arith, here, before, texts);
          fixed_are = let here = passed.fixed_are in let before = step.fixed in omega (arith, here, before, fixed);
        },
      )

-- ---- the members of an object

-- these members are left of others: behind what was passed the same is told of them
pub record MembersLeft {A : Type 0} (told : Members ℕ Scalar → ℕ → ℕ → A) (ns ms : Members ℕ Scalar) (more : List (Token ℕ Scalar)) (old now : TrailState) : Type 0 where
  pub left : IsTrailOf (members_preorder ns ++ token None closed ∷ more) now
  pub same : told ns now.texts now.fixed ≡ told ms old.texts old.fixed

-- the counts behind all members
abbrev pub members_passed : Members ℕ Scalar → ℕ → ℕ → ℕ × ℕ
members_passed ms x f = (x + members_texts (members_kinds ms), f + members_fixed (members_kinds ms))

-- what is told of members of a number is told of those behind the first of them
abbrev pub TellsBehind : {A : Type 0} → (Members ℕ Scalar → ℕ → ℕ → A) → ℕ → Type 0
TellsBehind told k = (n : NumberedTree) (ms : Members ℕ Scalar) (x f : ℕ) → told (member k n ms) x f ≡ told ms (x + texts_in (kinds_in n)) (f + fixed_in (kinds_in n))

pub passed_behind : (k : ℕ) → TellsBehind members_passed k
passed_behind k n ms x f = rw (add_assoc x (texts_in (kinds_in n)) (members_texts (members_kinds ms)), add_assoc f (fixed_in (kinds_in n)) (members_fixed (members_kinds ms))) refl

pub passed_all : (ms : Members ℕ Scalar) (more : List (Token ℕ Scalar)) (old new : TrailState) → IsTrailOf more new
    → members_passed no_members new.texts new.fixed ≡ members_passed ms old.texts old.fixed → Passes more (members_texts (members_kinds ms)) (members_fixed (members_kinds ms)) old new
passed_all ms more old new left same = record { left = left; texts_are = sym (add-zero new.texts) ∙ ap (λ p. p.0) same; fixed_are = sym (add-zero new.fixed) ∙ ap (λ p. p.1) same }

module _ {A : Type 0} (told : Members ℕ Scalar → ℕ → ℕ → A) (ms : Members ℕ Scalar) (more : List (Token ℕ Scalar)) (old now : TrailState) (tag : ℕ) (between : TrailState) (step : IsBehindTag now tag between) where
  pub members_done : (ns : Members ℕ Scalar) → MembersLeft told ns ms more old now → tag ≡ 7 → IsTrailOf more between × (told no_members between.texts between.fixed ≡ told ms old.texts old.fixed)
  members_done no_members is closes = ((close_taken more tag between (taken _ now tag between is.left step)).1, rw (step.texts, step.fixed) is.same)
  members_done (member k n ns) is closes =
      absurd (not_closed (Some k) n _ tag between (first_taken (Some k) n (members_preorder ns) (token None closed ∷ more) tag between (taken _ now tag between is.left step)) closes)

  module _ (number : ℕ) (new : TrailState) (next : IsBehindNumber between number new) (further : tag ≡ 7 → ⊥) where
    pub members_next : (last : TrailState) → ((n : NumberedTree) (more : List (Token ℕ Scalar)) → IsTaken tag (tokens_of n ++ more) new → Passes more (texts_in (kinds_in n)) (fixed_in (kinds_in n)) new last) → TellsBehind told number
        → (ns : Members ℕ Scalar) → MembersLeft told ns ms more old now → (os : Members ℕ Scalar) × MembersLeft told os ms more old last
    members_next last passes behind no_members is = absurd (further (close_taken more tag between (taken _ now tag between is.left step)).0)
    members_next last passes behind (member k n ns) is =
        let here = member_taken k n ns (token None closed ∷ more) tag between number new (taken _ now tag between is.left step) next in
        let passed = passes n (members_preorder ns ++ token None closed ∷ more) here.1 in
        let texts : last.texts ≡ now.texts + texts_in (kinds_in n) = passed.texts_are ∙ ap (λ x. x + texts_in (kinds_in n)) (next.texts ∙ step.texts) in
        let fixed : last.fixed ≡ now.fixed + fixed_in (kinds_in n) = passed.fixed_are ∙ ap (λ f. f + fixed_in (kinds_in n)) (next.fixed ∙ step.fixed) in
        (ns, record { left = passed.left; same = rw (texts, fixed) (sym (behind n ns now.texts now.fixed) ∙ ap (λ j. told (member j n ns) now.texts now.fixed) (sym here.0) ∙ is.same) })
