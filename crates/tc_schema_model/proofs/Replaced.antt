-- How often a value occurs in documents of which one is replaced or taken out.
use Rattle.std.proofs.Common.{◌≡◌, ℕ, ◌+◌, ◌<◌, Bool, true, false, [], ◌∷◌, refl, arith}
use Rattle.std.specs.Prelude.{◌==◌, nat_lt, if◌then◌else◌, Some, option_to_list}
use Rattle.std.specs.List.Sorted.{IsStrictlySortedBy}
use Rattle.std.specs.Map.{keys_of}
use Rattle.std.specs.Ordering.{nat_cmp}
use Rattle.std.proofs.lemmas.Bool.Decides.{nat_tests}
use Rattle.tc_model.specs.Document.{Document, document_shape}
use Rattle.tc_model.specs.Kinds.{Kind}
use Rattle.tc_model.specs.Keyed.{Keyed, value_of, with_value, without_key, values_in}
use Rattle.tc_model.proofs.Replacing.{below_all}
use Rattle.tc_schema_model.specs.Occurrences.{Path, count, occurrences}

-- the occurrences in the document of a key, if it has one
abbrev pub count_at : ℕ → Keyed Document → Path → Kind → ℕ
count_at n ps path t = count (option_to_list (value_of n ps)) path t

-- what occurs in the documents without that of a key, and in that one, occurs in all
pub count_taken_out : (n : ℕ) (ps : Keyed Document) (path : Path) (t : Kind) → count (values_in (without_key n ps)) path t + count_at n ps path t ≡ count (values_in ps) path t
count_taken_out n [] path t = refl
count_taken_out n (p ∷ ps) path t = cases (n == p.0) (count_taken_out n ps path t)
  where
    cases : (same : Bool) → count (values_in (without_key n ps)) path t + count_at n ps path t ≡ count (values_in ps) path t
        → count (values_in (if same then ps else p ∷ without_key n ps)) path t + count (option_to_list (if same then Some p.1 else value_of n ps)) path t ≡ count (values_in (p ∷ ps)) path t
    cases true more = omega arith
    cases false more = omega (arith, more)

-- what occurs in the documents with a new one: what occurs in it, and in the others without the one of its key
pub count_replaced : (n : ℕ) (d : Document) (ps : Keyed Document) → IsStrictlySortedBy nat_cmp (keys_of ps) → (path : Path) (t : Kind)
    → count (values_in (with_value n d ps)) path t ≡ occurrences (document_shape d) path t + count (values_in (without_key n ps)) path t
unfolding IsStrictlySortedBy
count_replaced n d [] sorted path t = refl
count_replaced n d (p ∷ ps) sorted path t =
    cases (nat_lt n p.0) (n == p.0) (λ first. below_first first) (λ same. same_key same) (count_replaced n d ps sorted.1 path t)
  where
    below_first : nat_lt n p.0 ≡ true → (n == p.0) ≡ false × (without_key n ps ≡ ps)
    below_first first = (not_same first, below_all n p.0 ps (is_below first) sorted.0)
      where
        is_below : nat_lt n p.0 ≡ true → n < p.0
        is_below h = grind (arith, nat_tests)

        not_same : nat_lt n p.0 ≡ true → (n == p.0) ≡ false
        not_same h = grind (arith, nat_tests)

    same_key : (n == p.0) ≡ true → n ≡ p.0
    same_key h = grind (arith, nat_tests)

    cases : (first same : Bool) → (first ≡ true → (same ≡ false) × (without_key n ps ≡ ps)) → (same ≡ true → n ≡ p.0)
        → count (values_in (with_value n d ps)) path t ≡ occurrences (document_shape d) path t + count (values_in (without_key n ps)) path t
        → count (values_in (if first then (n, d) ∷ p ∷ ps else (if same then (p.0, d) ∷ ps else p ∷ with_value n d ps))) path t
        ≡ occurrences (document_shape d) path t + count (values_in (if same then ps else p ∷ without_key n ps)) path t
    cases true same apart is more = let h = apart refl in rw (h.0, h.1) refl
    cases false true apart is more = refl
    cases false false apart is more = omega (arith, more)
