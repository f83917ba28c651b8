-- The entries of lesser keys, step by step.
use Rattle.std.proofs.Common.{◌≡◌, ◌<◌, ◌≤◌, ◌+◌, ℕ, false, [], ◌∷◌, ◌++◌, Some, None, refl, sym, ap, ◌∙◌, subst, arith, inl, inr}
use Rattle.std.specs.Prelude.{◌==◌, nat_lt, option_map, option_to_list}
use Rattle.std.specs.Ordering.{nat_cmp}
use Rattle.std.specs.Map.{keys_of}
use Rattle.std.proofs.lemmas.Bool.{cases_lt, lt-ltb}
use Rattle.std.proofs.lemmas.Bool.Decides.{nat_tests}
use Rattle.std.proofs.lemmas.Map.Keys.{sorted_head, sorted_tail}
use Rattle.tc_model.specs.Keyed.{Keyed, Ascends, value_of}
use Rattle.tc_model.proofs.KeyedEquality.{value_of-here, value_of-other, value_of-below}
use Rattle.tc_query.specs.Rows.{below}

-- ---- one entry more

below-first : {V : Type 0} (n : ℕ) (e : ℕ × V) (es : Keyed V) → e.0 < n → below n (e ∷ es) ≡ e ∷ below n es
below-first n e es less = rw (lt-ltb e.0 n less) refl

below-past : {V : Type 0} (n : ℕ) (e : ℕ × V) (es : Keyed V) → n ≤ e.0 → below n (e ∷ es) ≡ below n es
below-past n e es at_least = let other : nat_lt e.0 n ≡ false = grind (arith, nat_tests) in rw other refl

second_above : {V : Type 0} (e f : ℕ × V) (es : Keyed V) → Ascends (e ∷ f ∷ es) → e.0 < f.0
second_above e f es up = let above = (sorted_head nat_cmp e.0 (keys_of (f ∷ es)) up).0 in grind (arith, nat_tests)

-- where the first key is not less, none is
pub none_below : {V : Type 0} (n : ℕ) (e : ℕ × V) (es : Keyed V) → Ascends (e ∷ es) → n ≤ e.0 → below n (e ∷ es) ≡ []
none_below n e [] up at_least = below-past n e [] at_least
none_below n e (f ∷ es) up at_least =
    let above = second_above e f es up in
    below-past n e (f ∷ es) at_least ∙ none_below n f es (sorted_tail nat_cmp e.0 (keys_of (f ∷ es)) up) (omega (arith, above, at_least))

-- ---- one key more

-- no key from one on and below another has an entry
abbrev pub IsGap : {V : Type 0} → ℕ → ℕ → Keyed V → Type 0
IsGap low key es = (k : ℕ) → low ≤ k → k < key → value_of k es ≡ None

abbrev entry_at : {V : Type 0} → ℕ → Keyed V → Keyed V
entry_at key es = option_to_list (option_map (λ v. (key, v)) (value_of key es))

other_key : (k n : ℕ) → (k < n → ⊥) → (n < k → ⊥) → k ≡ n
other_key k n not_less not_more = elim (cases_lt k n) [
  | inl less ↦ absurd (not_less less)
  | inr at_least ↦ elim (cases_lt n k) [
    | inl more ↦ absurd (not_more more)
    | inr at_most ↦ omega (arith, at_least, at_most)
  ]
]

-- a first entry of a lesser key tells nothing of a key
pub value_of-behind : {V : Type 0} (k : ℕ) (e : ℕ × V) (es : Keyed V) → e.0 < k → value_of k (e ∷ es) ≡ value_of k es
value_of-behind k e es less = let apart : (k == e.0) ≡ false = grind (arith, nat_tests) in value_of-other k e.0 e.1 es apart

-- the key of the first entry has one
first_there : {V : Type 0} (e : ℕ × V) (es : Keyed V) → value_of e.0 (e ∷ es) ≡ None → ⊥
first_there e es none = let both : None ≡ Some e.1 = sym none ∙ value_of-here e.0 e.1 es in absurd (cc)

gap_behind : {V : Type 0} (low key : ℕ) (e : ℕ × V) (es : Keyed V) → e.0 < low → IsGap low key (e ∷ es) → IsGap low key es
gap_behind low key e es less gap = λ k from to. sym (value_of-behind k e es (omega (arith, less, from))) ∙ gap k from to

-- the entries below the next key are those below, and the one of the key if there is one
pub below-next : {V : Type 0} (low key : ℕ) (es : Keyed V) → Ascends es → low ≤ key → IsGap low key es → below (key + 1) es ≡ below low es ++ option_to_list (option_map (λ v. (key, v)) (value_of key es))
below-next low key [] up order gap = refl
below-next {V} low key (e ∷ es) up order gap = elim (cases_lt e.0 low) [
  | inl less ↦ passed less (below-next low key es (sorted_tail nat_cmp e.0 (keys_of es) up) order (gap_behind low key e es less gap))
  | inr from ↦ elim (cases_lt key e.0) [
    | inl above ↦
        none_below (key + 1) e es up (omega (arith, above))
        ∙ sym (ap (λ xs. xs ++ entry_at key (e ∷ es)) (none_below low e es up from) ∙ ap (λ o. option_to_list (option_map (λ v. (key, v)) o)) (value_of-below key e.0 e.1 es above up))
    | inr at_most ↦ here from (other_key e.0 key (λ less. first_there e es (gap e.0 from less)) (λ more. omega (arith, more, at_most)))
  ]
]
  where
    passed : e.0 < low → below (key + 1) es ≡ below low es ++ entry_at key es → below (key + 1) (e ∷ es) ≡ below low (e ∷ es) ++ entry_at key (e ∷ es)
    passed less rest =
        below-first (key + 1) e es (omega (arith, less, order))
        ∙ ap (λ xs. e ∷ xs) (rest ∙ ap (λ o. below low es ++ option_to_list (option_map (λ v. (key, v)) o)) (sym (value_of-behind key e es (omega (arith, less, order)))))
        ∙ sym (ap (λ xs. xs ++ entry_at key (e ∷ es)) (below-first low e es less))

    behind : (fs : Keyed V) → Ascends (e ∷ fs) → below (e.0 + 1) fs ≡ []
    behind [] ascends = refl
    behind (f ∷ fs) ascends = let above = second_above e f fs ascends in none_below (e.0 + 1) f fs (sorted_tail nat_cmp e.0 (keys_of (f ∷ fs)) ascends) (omega (arith, above))

    here : low ≤ e.0 → e.0 ≡ key → below (key + 1) (e ∷ es) ≡ below low (e ∷ es) ++ entry_at key (e ∷ es)
    here from is =
        subst (λ k. below (k + 1) (e ∷ es) ≡ below low (e ∷ es) ++ entry_at k (e ∷ es)) is
        (below-first (e.0 + 1) e es (omega arith) ∙ ap (λ xs. e ∷ xs) (behind es up)
        ∙ sym (ap (λ xs. xs ++ entry_at e.0 (e ∷ es)) (none_below low e es up from) ∙ ap (λ o. option_to_list (option_map (λ v. (e.0, v)) o)) (value_of-here e.0 e.1 es)))

-- none is below 0, and all are below where no key from there on has an entry
pub below-start : {V : Type 0} (es : Keyed V) → below 0 es ≡ []
below-start [] = refl
below-start (e ∷ es) = below-past 0 e es (omega arith) ∙ below-start es

pub below-end : {V : Type 0} (low : ℕ) (es : Keyed V) → Ascends es → ((k : ℕ) → low ≤ k → value_of k es ≡ None) → below low es ≡ es
below-end low [] up none = refl
below-end low (e ∷ es) up none = elim (cases_lt e.0 low) [
  | inl less ↦ below-first low e es less ∙ ap (λ xs. e ∷ xs) (below-end low es (sorted_tail nat_cmp e.0 (keys_of es) up) (λ k from. sym (value_of-behind k e es (omega (arith, less, from))) ∙ none k from))
  | inr from ↦ absurd (first_there e es (none e.0 from))
]
