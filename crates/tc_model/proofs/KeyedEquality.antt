-- Lists of keys and values in ascending key are told apart by their look-ups.
use Rattle.std.proofs.Common.{◌≡◌, ◌<◌, ℕ, Bool, true, false, [], ◌∷◌, refl, sym, ap, ◌∙◌, subst, arith, inl, inr, Option, Some, None, Less, eq-eqb}
use Rattle.std.specs.Prelude.{◌==◌, All, if◌then◌else◌}
use Rattle.std.specs.Ordering.{nat_cmp}
use Rattle.std.specs.Map.{keys_of}
use Rattle.std.proofs.lemmas.Bool.{cases_lt, eqb-true, lt-ltb}
use Rattle.std.proofs.lemmas.List.Elements.{All-nil, All-cons, All-head, All-tail}
use Rattle.std.proofs.lemmas.Map.Keys.{sorted_head, sorted_tail}
use Rattle.std.proofs.lemmas.Option.{same_Some}
use Rattle.tc_model.specs.Keyed.{Keyed, Ascends, value_of}
use Rattle.tc_model.proofs.KeyedOrder.{above_less, less_by}
use Rattle.tc_model.proofs.KeyedLookups.{value_of-above}

pub value_of-here : {V : Type 0} (n : ℕ) (v : V) (ps : Keyed V) → value_of n ((n, v) ∷ ps) ≡ Some v
value_of-here n v ps = rw (eq-eqb n n refl) refl

pub value_of-other : {V : Type 0} (n m : ℕ) (v : V) (ps : Keyed V) → (n == m) ≡ false → value_of n ((m, v) ∷ ps) ≡ value_of n ps
value_of-other n m v ps other = rw other refl

-- a key below the first one has no value
pub value_of-below : {V : Type 0} (n m : ℕ) (v : V) (ps : Keyed V) → n < m → Ascends ((m, v) ∷ ps) → value_of n ((m, v) ∷ ps) ≡ None
value_of-below n m v ps less ascends =
    let before : nat_cmp n m ≡ Less = less_by n m (lt-ltb n m less) in
    value_of-above n ((m, v) ∷ ps) (before, above_less n m (keys_of ps) before (sorted_head nat_cmp m (keys_of ps) ascends))

none_some : {V : Type 0} (v : V) → ◌≡◌ {A = Option V} None (Some v) → ⊥
none_some v e = cc

tail_same : {V : Type 0} (j k : ℕ) (v w : V) (xs ys : Keyed V) → (b : Bool) → (j == k) ≡ b → value_of k xs ≡ None → value_of k ys ≡ None → value_of j ((k, v) ∷ xs) ≡ value_of j ((k, w) ∷ ys) → value_of j xs ≡ value_of j ys
tail_same j k v w xs ys true here no_x no_y same = rw (eqb-true j k here) (no_x ∙ sym no_y)
tail_same j k v w xs ys false other no_x no_y same = sym (value_of-other j k v xs other) ∙ same ∙ value_of-other j k w ys other

heads : {V : Type 0} (k j : ℕ) (v w : V) (xs ys : Keyed V) → Ascends ((k, v) ∷ xs) → Ascends ((j, w) ∷ ys) → ((n : ℕ) → value_of n ((k, v) ∷ xs) ≡ value_of n ((j, w) ∷ ys)) → k ≡ j
heads k j v w xs ys up down same = elim (cases_lt k j) [
  | inl less ↦ absurd (none_some v (sym (value_of-below k j w ys less down) ∙ sym (same k) ∙ value_of-here k v xs))
  | inr at_least ↦ elim (cases_lt j k) [
    | inl less ↦ absurd (none_some w (sym (value_of-below j k v xs less up) ∙ same j ∙ value_of-here j w ys))
    | inr at_most ↦ omega arith
  ]
]

same_cons : {V : Type 0} (k j : ℕ) (v w : V) (xs ys : Keyed V) → k ≡ j → Ascends ((k, v) ∷ xs) → Ascends ((j, w) ∷ ys) → ((n : ℕ) → value_of n ((k, v) ∷ xs) ≡ value_of n ((j, w) ∷ ys))
    → (Ascends xs → Ascends ys → ((n : ℕ) → value_of n xs ≡ value_of n ys) → xs ≡ ys) → (k, v) ∷ xs ≡ (j, w) ∷ ys
same_cons k j v w xs ys e up down same rest =
    let down' : Ascends ((k, w) ∷ ys) = subst (λ i. Ascends ((i, w) ∷ ys)) (sym e) down in
    let same' : (n : ℕ) → value_of n ((k, v) ∷ xs) ≡ value_of n ((k, w) ∷ ys) = subst (λ i. (n : ℕ) → value_of n ((k, v) ∷ xs) ≡ value_of n ((i, w) ∷ ys)) (sym e) same in
    let no_x : value_of k xs ≡ None = value_of-above k xs (sorted_head nat_cmp k (keys_of xs) up) in
    let no_y : value_of k ys ≡ None = value_of-above k ys (sorted_head nat_cmp k (keys_of ys) down') in
    let value : v ≡ w = same_Some v w (sym (value_of-here k v xs) ∙ same' k ∙ value_of-here k w ys) in
    let tails : xs ≡ ys = rest (sorted_tail nat_cmp k (keys_of xs) up) (sorted_tail nat_cmp k (keys_of ys) down')
    (λ n. tail_same n k v w xs ys (n == k) refl no_x no_y (same' n)) in
    ap (λ i. (i, v) ∷ xs) e ∙ ap (λ x. (j, x) ∷ xs) value ∙ ap (λ rest. (j, w) ∷ rest) tails

-- that each key has the same makes two lists one
pub same_keyed : {V : Type 0} (xs ys : Keyed V) → Ascends xs → Ascends ys → ((n : ℕ) → value_of n xs ≡ value_of n ys) → xs ≡ ys
same_keyed [] [] up down same = refl
same_keyed [] ((j, w) ∷ ys) up down same = absurd (none_some w (same j ∙ value_of-here j w ys))
same_keyed ((k, v) ∷ xs) [] up down same = absurd (none_some v (sym (same k) ∙ value_of-here k v xs))
same_keyed ((k, v) ∷ xs) ((j, w) ∷ ys) up down same =
    same_cons k j v w xs ys (heads k j v w xs ys up down same) up down same (λ up' down' same'. same_keyed xs ys up' down' same')

-- what holds of each key's value holds of each entry
pub each_found : {V : Type 0} (P : ℕ × V → Type 0) (es : Keyed V) → Ascends es → ((k : ℕ) (v : V) → value_of k es ≡ Some v → P (k, v)) → All P es
each_found P [] up has = All-nil P
each_found {V} P ((k, v) ∷ es) up has =
    All-cons P (k, v) es (has k v (value_of-here k v es))
    (each_found P es (sorted_tail nat_cmp k (keys_of es) up) (λ j w there. has j w (step j w (j == k) refl there)))
  where
    step : (j : ℕ) (w : V) (b : Bool) → (j == k) ≡ b → value_of j es ≡ Some w → (if b then Some v else value_of j es) ≡ Some w
    step j w true same there = absurd (none_some w (sym (value_of-above k es (sorted_head nat_cmp k (keys_of es) up)) ∙ ap (λ n. value_of n es) (sym (eqb-true j k same)) ∙ there))
    step j w false other there = there

-- and of an entry that is found
pub of_found : {V : Type 0} (P : ℕ × V → Type 0) (es : Keyed V) (k : ℕ) (v : V) → All P es → value_of k es ≡ Some v → P (k, v)
of_found P [] k v all there = absurd (none_some v there)
of_found P (e ∷ es) k v all there = step (k == e.0) refl (of_found P es k v (All-tail P e es all)) there
  where
    step : (b : Bool) → (k == e.0) ≡ b → (value_of k es ≡ Some v → P (k, v)) → (if b then Some e.1 else value_of k es) ≡ Some v → P (k, v)
    step true same more there = subst (λ n. P (n, v)) (sym (eqb-true k e.0 same)) (subst (λ w. P (e.0, w)) (same_Some e.1 v there) (All-head P e es all))
    step false other more there = more there
