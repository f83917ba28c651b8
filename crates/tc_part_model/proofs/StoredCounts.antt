-- How many documents are stored with one more write.
use Rattle.std.proofs.Common.{◌≡◌, ◌<◌, ◌+◌, ℕ, Bool, true, false, [], ◌∷◌, length, refl, ap, arith, Option, Some, None, is_some, if◌then◌else◌, inl, inr}
use Rattle.std.specs.Prelude.{◌==◌, nat_lt}
use Rattle.std.proofs.lemmas.Bool.{cases_Bool}
use Rattle.std.proofs.lemmas.Bool.Decides.{nat_tests}
use Rattle.std.proofs.lemmas.Map.Keys.{sorted_tail}
use Rattle.std.specs.Map.{keys_of}
use Rattle.std.specs.Ordering.{nat_cmp}
use Rattle.tc_model.specs.Document.{Document}
use Rattle.tc_model.specs.Keyed.{Keyed, Ascends, value_of, with_value, without_key}
use Rattle.tc_model.proofs.KeyedEquality.{value_of-below}
use Rattle.tc_model.proofs.Replacing.{none_taken_out}
use Rattle.tc_plain_model.specs.Writes.{Pairs, Write, after_write}
use Rattle.tc_part_model.specs.Staging.{counted_with}

new_counted : {V : Type 0} (n : ℕ) (v : V) (ps : Keyed V) → value_of n ps ≡ None → length (with_value n v ps) ≡ length ps + 1
new_counted n v [] none = refl
new_counted n v (p ∷ ps) none = cases (nat_lt n p.0) (n == p.0) none (new_counted n v ps)
  where
    cases : (less same : Bool) → (if same then Some p.1 else value_of n ps) ≡ None → (value_of n ps ≡ None → length (with_value n v ps) ≡ length ps + 1)
        → length (if less then (n, v) ∷ p ∷ ps else (if same then (p.0, v) ∷ ps else p ∷ with_value n v ps)) ≡ length (p ∷ ps) + 1
    cases true same none more = omega arith
    cases false true none more = absurd (cc)
    cases false false none more = omega (arith, more none)

is_less : (a b : ℕ) → nat_lt a b ≡ true → a < b
is_less a b h = grind (arith, nat_tests)

never : {V : Type 0} (X : Type 0) (o : Option V) (w : V) → o ≡ None → o ≡ Some w → X
never X o w none some = absurd (cc)

there_counted : {V : Type 0} (n : ℕ) (v w : V) (ps : Keyed V) → Ascends ps → value_of n ps ≡ Some w → length (with_value n v ps) ≡ length ps
there_counted n v w [] up there = absurd (cc)
there_counted n v w (p ∷ ps) up there = elim (cases_Bool (nat_lt n p.0)) [
  | inl less ↦ never (length (with_value n v (p ∷ ps)) ≡ length (p ∷ ps)) (value_of n (p ∷ ps)) w (value_of-below n p.0 p.1 ps (is_less n p.0 less) up) there
  | inr more ↦ rw more (cases (n == p.0) there (there_counted n v w ps (sorted_tail nat_cmp p.0 (keys_of ps) up)))
]
  where
    cases : (same : Bool) → (if same then Some p.1 else value_of n ps) ≡ Some w → (value_of n ps ≡ Some w → length (with_value n v ps) ≡ length ps)
        → length (if same then (p.0, v) ∷ ps else p ∷ with_value n v ps) ≡ length (p ∷ ps)
    cases true there more = refl
    cases false there more = omega (arith, more there)

out_counted : {V : Type 0} (n : ℕ) (w : V) (ps : Keyed V) → value_of n ps ≡ Some w → length (without_key n ps) + 1 ≡ length ps
out_counted n w [] there = absurd (cc)
out_counted n w (p ∷ ps) there = cases (n == p.0) there (out_counted n w ps)
  where
    cases : (same : Bool) → (if same then Some p.1 else value_of n ps) ≡ Some w → (value_of n ps ≡ Some w → length (without_key n ps) + 1 ≡ length ps)
        → length (if same then ps else p ∷ without_key n ps) + 1 ≡ length (p ∷ ps)
    cases true there more = omega arith
    cases false there more = omega (arith, more there)

pub write_counted : (w : Write) (pairs : Pairs) → Ascends pairs → length (after_write pairs w) ≡ counted_with w (is_some (value_of w.0 pairs)) (length pairs)
write_counted (key, Some d) pairs up = at (value_of key pairs) refl
  where
    at : (o : Option Document) → value_of key pairs ≡ o → length (with_value key d pairs) ≡ counted_with (key, Some d) (is_some o) (length pairs)
    at None none = new_counted key d pairs none
    at (Some old) there = there_counted key d old pairs up there
write_counted (key, None) pairs up = at (value_of key pairs) refl
  where
    at : (o : Option Document) → value_of key pairs ≡ o → length (without_key key pairs) ≡ counted_with (key, None) (is_some o) (length pairs)
    at None none = ap (λ (ps : Pairs). length ps) (none_taken_out key pairs none)
    at (Some old) there = omega (arith, out_counted key old pairs there)
