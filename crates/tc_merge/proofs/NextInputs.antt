-- The next of some inputs and of one more.
use Rattle.std.proofs.Common.{◌≡◌, ◌∙◌, ◌<◌, ◌≤◌, ◌^◌, ◌⊎◌, ℕ, zero, suc, Bool, true, false, List, [], ◌∷◌, ◌++◌, Option, None, Some, length, slice_get, refl, sym, ap, subst, arith, inl, inr, eq-eqb}
use Rattle.std.specs.Prelude.{◌==◌, if◌then◌else◌}
use Rattle.std.proofs.lemmas.Bool.{eqb-true, true≢false}
use Rattle.std.proofs.lemmas.Option.{same_Some}
use Rattle.tc_merge.specs.declared.input.Next.{Next}
use Rattle.tc_merge.specs.declared.least.Least.{Least}
use Rattle.tc_merge.specs.Inputs.{InputState, key_ahead, key_in, no_key, next_in, IsNext, IsNextOf}

get-pushed : {X : Type 0} (xs : List X) (x : X) (n : ℕ) (y : X) → slice_get xs n ≡ Some y → slice_get (xs ++ x ∷ []) n ≡ Some y
get-pushed [] x n y here = absurd (cc)
get-pushed (z ∷ xs) x zero y here = here
get-pushed (z ∷ xs) x (suc n) y here = get-pushed xs x n y here

get-last : {X : Type 0} (xs : List X) (x : X) → slice_get (xs ++ x ∷ []) (length xs) ≡ Some x
get-last [] x = refl
get-last (z ∷ xs) x = get-last xs x

pushed-get : {X : Type 0} (xs : List X) (x : X) (n : ℕ) (y : X) → slice_get (xs ++ x ∷ []) n ≡ Some y → ((slice_get xs n ≡ Some y) × (n < length xs)) ⊎ ((n ≡ length xs) × (x ≡ y))
pushed-get [] x zero y here = inr (refl, same_Some x y here)
pushed-get [] x (suc n) y here = absurd (cc)
pushed-get (z ∷ xs) x zero y here = inl (here, omega arith)
pushed-get (z ∷ xs) x (suc n) y here = elim (pushed-get xs x n y here) [
  | inl there ↦ inl (there.0, omega (arith, there.1))
  | inr last ↦ inr (ap suc last.0, last.1)
]

pub some_is : {X : Type 0} (o : Option X) (x y : X) → o ≡ Some x → o ≡ Some y → x ≡ y
some_is o x y one two = same_Some x y (sym one ∙ two)

not_both : {X : Type 0} (o : Option X) (x : X) → o ≡ None → o ≡ Some x → ⊥
not_both o x none some = cc

-- of two numbers the less is not the greatest
not_greatest : (key most : ℕ) → (key == no_key) ≡ true → (most == no_key) ≡ false → key ≤ most → most < 2 ^ 64 → ⊥
not_greatest key most is other at_most small =
    let greatest = eqb-true key no_key is in
    let same : most ≡ no_key = omega (arith, greatest, at_most, small) in
    true≢false (sym (eq-eqb most no_key same) ∙ other)

module _ {F : Type 0} (inputs : List (InputState F)) (i : InputState F) where
  pub none_more : IsNextOf inputs None → key_ahead i ≡ None → IsNextOf (inputs ++ i ∷ []) None
  none_more none last = λ n j here. elim (pushed-get inputs i n j here) [
    | inl there ↦ none n j there.0
    | inr is ↦ subst (λ k. key_ahead k ≡ None) is.1 last
  ]

  -- one that has nothing ahead, or a greater key
  pub next_stays : (next : Next) → IsNext inputs next → ((key : ℕ) → key_ahead i ≡ Some key → next.key < key) → IsNext (inputs ++ i ∷ []) next
  next_stays next is above = record {
    input = is.input;
    here = get-pushed inputs i next.input is.input is.here;
    ahead = is.ahead;
    least = λ n key j here at. elim (pushed-get inputs i n j here) [
      | inl there ↦ is.least n key j there.0 at
      | inr last ↦ let more = above key (subst (λ k. key_ahead k ≡ Some key) (sym last.1) at) in omega (arith, more)
    ];
    newest = λ n j further here at. elim (pushed-get inputs i n j here) [
      | inl there ↦ is.newest n j further there.0 at
      | inr last ↦ let more = above next.key (subst (λ k. key_ahead k ≡ Some next.key) (sym last.1) at) in omega (arith, more)
    ];
  }

  -- one whose key is the least
  pub is_next : (place key : ℕ) → length inputs ≡ place → key_ahead i ≡ Some key → ((n k : ℕ) (j : InputState F) → slice_get inputs n ≡ Some j → key_ahead j ≡ Some k → key ≤ k)
      → IsNext (inputs ++ i ∷ []) (record { input = place; key = key })
  is_next place key is ahead least = record {
    input = i;
    here = subst (λ n. slice_get (inputs ++ i ∷ []) n ≡ Some i) is (get-last inputs i);
    ahead = ahead;
    least = λ n k j here at. elim (pushed-get inputs i n j here) [
      | inl there ↦ least n k j there.0 at
      | inr last ↦ let same : key ≡ k = some_is (key_ahead i) key k ahead (subst (λ x. key_ahead x ≡ Some k) (sym last.1) at) in omega (arith, same)
    ];
    newest = λ n j further here at. elim (pushed-get inputs i n j here) [
      | inl there ↦ omega (arith, further, is, there.1)
      | inr last ↦ omega (arith, further, is, last.0)
    ];
  }

  pub is_next_first : (place key : ℕ) → length inputs ≡ place → key_ahead i ≡ Some key → IsNextOf inputs None → IsNext (inputs ++ i ∷ []) (record { input = place; key = key })
  is_next_first place key is ahead none = is_next place key is ahead (λ n k j here at. absurd (not_both (key_ahead j) k (none n j here) at))

  pub is_next_now : (place key : ℕ) (next : Next) → length inputs ≡ place → key_ahead i ≡ Some key → IsNext inputs next → key ≤ next.key → IsNext (inputs ++ i ∷ []) (record { input = place; key = key })
  is_next_now place key next is ahead before at_most = is_next place key is ahead (λ n k j here at. let more = before.least n k j here at in omega (arith, more, at_most))

  -- one whose key is no greater than that of the next, if there is one
  pub taken : (least : Least) (place key : ℕ) → length inputs ≡ place → key_in key ≡ key_ahead i → key ≤ least.key → least.key < 2 ^ 64 → IsNextOf inputs (next_in least)
      → IsNextOf (inputs ++ i ∷ []) (next_in (record { input = place; key = key }))
  taken least place key is ahead at_most small before = cases (key == no_key) refl (least.key == no_key) refl before
    where
      cases : (b : Bool) → (key == no_key) ≡ b → (c : Bool) → (least.key == no_key) ≡ c → IsNextOf inputs (if c then None else Some (record { input = least.input; key = least.key }))
          → IsNextOf (inputs ++ i ∷ []) (if b then None else Some (record { input = place; key = key }))
      cases true none true no_ before = none_more before (sym ahead ∙ ap (λ b. if b then None else Some key) none)
      cases true none false other before = absurd (not_greatest key least.key none other at_most small)
      cases false some true no_ before = is_next_first place key is (sym ahead ∙ ap (λ b. if b then None else Some key) some) before
      cases false some false other before = is_next_now place key (record { input = least.input; key = least.key }) is (sym ahead ∙ ap (λ b. if b then None else Some key) some) before at_most

  -- one whose key is greater, or that has none
  pub left_out : (least : Least) (key : ℕ) → key_in key ≡ key_ahead i → least.key < key → key < 2 ^ 64 → IsNextOf inputs (next_in least) → IsNextOf (inputs ++ i ∷ []) (next_in least)
  left_out least key ahead below small before = cases (least.key == no_key) refl before
    where
      above : (k : ℕ) → key_ahead i ≡ Some k → (b : Bool) → (key == no_key) ≡ b → least.key < k
      above k at true none = absurd (not_both (key_ahead i) k (sym ahead ∙ ap (λ b. if b then None else Some key) none) at)
      above k at false some = let same = some_is (key_ahead i) key k (sym ahead ∙ ap (λ b. if b then None else Some key) some) at in omega (arith, below, same)

      cases : (c : Bool) → (least.key == no_key) ≡ c → IsNextOf inputs (if c then None else Some (record { input = least.input; key = least.key }))
          → IsNextOf (inputs ++ i ∷ []) (if c then None else Some (record { input = least.input; key = least.key }))
      cases true none before = let greatest = eqb-true least.key no_key none in absurd (omega (arith, greatest, below, small))
      cases false some before = next_stays (record { input = least.input; key = least.key }) before (λ k at. above k at (key == no_key) refl)
