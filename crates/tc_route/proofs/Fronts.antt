-- A reply at the least place stands in front, whenever it comes.
use Rattle.std.proofs.Common.{◌≡◌, ◌∙◌, ap, refl, ℕ, ◌<◌, true, false, [], ◌∷◌, arith}
use Rattle.std.specs.Prelude.{None, ◌==◌, nat_lt, fold}
use Rattle.std.proofs.lemmas.Bool.Decides.{nat_tests}
use Rattle.std.proofs.lemmas.List.Elements.{All-head, All-tail}
use Rattle.tc_model.specs.Keyed.{Keyed, Ascends, value_of, with_value}
use Rattle.tc_model.proofs.KeyedEquality.{value_of-here}
use Rattle.tc_model.proofs.KeyedOrder.{All-with_value}
use Rattle.tc_run_model.proofs.UnitedPairs.{AreBehind, apart_back, behind_first, rest_ascends, with_value-front, with_value-behind}
use Rattle.tc_route.specs.Gathered.{beside_by, with_reply_by}

-- ---- one value looked up

pub value_of-front : {V : Type 0} (at : ℕ) (all : Keyed V) → AreBehind at all → value_of at all ≡ None
value_of-front at [] behind = refl
value_of-front at (e ∷ es) behind =
    let apart : (at == e.0) ≡ false = grind (arith, nat_tests, All-head (λ e. at < e.0) e es behind) in
    rw apart (value_of-front at es (All-tail (λ e. at < e.0) e es behind))

value_of-behind : {V : Type 0} (at n : ℕ) (first : V) (all : Keyed V) → at < n → value_of n ((at, first) ∷ all) ≡ value_of n all
value_of-behind at n first all less = rw (apart_back at n less) refl

module _ {A : Type 0} (join : A → A → A) where
  -- ---- one reply put in

  pub with_reply-front : (at : ℕ) (a : A) (all : Keyed A) → AreBehind at all → with_reply_by join all (at, a) ≡ (at, a) ∷ all
  with_reply-front at a all behind =
      ap (λ o. with_value at (beside_by join o a) all) (value_of-front at all behind) ∙ with_value-front at a all behind

  -- a further reply at the least place
  pub with_reply-same : (at : ℕ) (first a : A) (all : Keyed A) → with_reply_by join ((at, first) ∷ all) (at, a) ≡ (at, join first a) ∷ all
  with_reply-same at first a all =
      let not_before : nat_lt at at ≡ false = grind (arith, nat_tests) in
      let itself : (at == at) ≡ true = grind (arith, nat_tests) in
      ap (λ o. with_value at (beside_by join o a) ((at, first) ∷ all)) (value_of-here at first all) ∙ rw (not_before, itself) refl

  with_reply-behind : (at : ℕ) (first : A) (all : Keyed A) (a : ℕ × A) → at < a.0 → with_reply_by join ((at, first) ∷ all) a ≡ (at, first) ∷ with_reply_by join all a
  with_reply-behind at first all a less =
      ap (λ o. with_value a.0 (beside_by join o a.1) ((at, first) ∷ all)) (value_of-behind at a.0 first all less)
      ∙ with_value-behind at a.0 first (beside_by join (value_of a.0 all) a.1) all less

  -- ---- all replies of a part

  pub fold-behind : (at : ℕ) (first : A) (all more : Keyed A) → AreBehind at more → fold (with_reply_by join) ((at, first) ∷ all) more ≡ (at, first) ∷ fold (with_reply_by join) all more
  fold-behind at first all [] behind = refl
  fold-behind at first all (a ∷ more) behind =
      ap (λ xs. fold (with_reply_by join) xs more) (with_reply-behind at first all a (All-head (λ e. at < e.0) a more behind))
      ∙ fold-behind at first (with_reply_by join all a) more (All-tail (λ e. at < e.0) a more behind)

  pub AreBehind-fold : (at : ℕ) (all more : Keyed A) → AreBehind at all → AreBehind at more → AreBehind at (fold (with_reply_by join) all more)
  AreBehind-fold at all [] behind more_behind = behind
  AreBehind-fold at all (a ∷ more) behind more_behind =
      AreBehind-fold at (with_reply_by join all a) more
      (All-with_value (λ e. at < e.0) a.0 (beside_by join (value_of a.0 all) a.1) all (All-head (λ e. at < e.0) a more more_behind) behind) (All-tail (λ e. at < e.0) a more more_behind)

  -- ---- parts in ascending place are merged

  -- a reply of the part stands below all that is there
  pub fold-front : (at : ℕ) (a : A) (all more : Keyed A) → AreBehind at all → AreBehind at more → fold (with_reply_by join) all ((at, a) ∷ more) ≡ (at, a) ∷ fold (with_reply_by join) all more
  fold-front at a all more behind more_behind =
      ap (λ xs. fold (with_reply_by join) xs more) (with_reply-front at a all behind) ∙ fold-behind at a all more more_behind

  -- a reply of the part stands at the first place that is there
  pub fold-same : (at : ℕ) (first a : A) (all more : Keyed A) → AreBehind at more → fold (with_reply_by join) ((at, first) ∷ all) ((at, a) ∷ more) ≡ (at, join first a) ∷ fold (with_reply_by join) all more
  fold-same at first a all more behind =
      ap (λ xs. fold (with_reply_by join) xs more) (with_reply-same at first a all) ∙ fold-behind at (join first a) all more behind

  -- nothing is there
  pub fold-ascending : (more : Keyed A) → Ascends more → fold (with_reply_by join) [] more ≡ more
  fold-ascending [] ascends = refl
  fold-ascending (a ∷ more) ascends =
      fold-behind a.0 a.1 [] more (behind_first a more ascends) ∙ ap (λ xs. a ∷ xs) (fold-ascending more (rest_ascends a more ascends))
