-- Fields as a list of numbers and places: where the field of a number stands, or would stand.
use Rattle.std.proofs.Common.{◌≡◌, ℕ, zero, suc, ◌+◌, ◌<◌, ◌≤◌, List, [], ◌∷◌, Some, length, map, take, get_or, Result, Ok, Err, IfOk, IfErr, refl, sym, ap, ◌∙◌, subst, arith}
use Rattle.std.proofs.lemmas.List.{length-map}
use Rattle.std.specs.Prelude.{slice_get}
use Rattle.std.specs.List.{AllByRecursion}
use Rattle.std.specs.Option.{IfSome}
use Rattle.std.specs.List.Sorted.{IsSearchInRange, IsBinarySearchResult, IsNonDecreasingBy}
use Rattle.std.specs.Ordering.{nat_cmp, ordering_index}
use Rattle.std.proofs.lemmas.Cmp.{ranked}
use Rattle.std.proofs.lemmas.Bool.Decides.{nat_tests}
use Rattle.tc_schema_model.specs.Counted.{Counted, Fields, a_field, AreFieldsOrdered}
use Rattle.tc_schema_model.specs.Added.{put_field, without_field}
use Rattle.tc_schema_model.proofs.CountingLaws.{below_first, at_first, after_first}
use Rattle.tc_schema.specs.Places.{listed}
use Rattle.tc_schema.specs.Search.{IsPlaceOf, IsGapFor}

-- a field that stands there is not below the lowest number
at_least : (low n : ℕ) (d : Counted) (fs : List (ℕ × Counted)) (i : ℕ) → AreFieldsOrdered low (listed fs) → slice_get fs i ≡ Some (n, d) → low ≤ n
at_least low n d [] i order here = cc
at_least low n d (f ∷ fs) zero order here = let pair : f ≡ (n, d) = cc in let same : f.0 ≡ n = ap (λ p. p.0) pair in omega (arith, order.0)
at_least low n d (f ∷ fs) (suc i) order here = let rest = at_least (f.0 + 1) n d fs i order.2 here in omega (arith, order.0)

-- ---- one that stands there

place_first : (n : ℕ) (d : Counted) (fs : List (ℕ × Counted)) → IsPlaceOf n ((n, d) ∷ fs) 0
place_first n d fs = record {
  inside = omega arith;
  here = ap (λ e. let pair : ℕ × Counted = (n, e) in Some pair) (sym (at_first n d (listed fs)));
  written = λ e. grind (arith, nat_tests);
  taken = grind (arith, nat_tests);
}

place_later : (n : ℕ) (f : ℕ × Counted) (fs : List (ℕ × Counted)) (i : ℕ) → f.0 < n → IsPlaceOf n fs i → IsPlaceOf n (f ∷ fs) (suc i)
place_later n f fs i less later = record {
  inside = let h = later.inside in omega arith;
  here = later.here ∙ ap (λ d. let pair : ℕ × Counted = (n, d) in Some pair) (sym (after_first n f.0 f.1 (listed fs) less));
  written = λ d. ap (a_field f.0 f.1) (later.written d) ∙ put n d f.0 f.1 (listed fs) less;
  taken = ap (a_field f.0 f.1) later.taken ∙ out n f.0 f.1 (listed fs) less;
}
  where
    put : (n : ℕ) (d : Counted) (k : ℕ) (e : Counted) (fs : Fields) → k < n → a_field k e (put_field n d fs) ≡ put_field n d (a_field k e fs)
    put n d k e fs less = grind (arith, nat_tests)

    out : (n k : ℕ) (e : Counted) (fs : Fields) → k < n → a_field k e (without_field n fs) ≡ without_field n (a_field k e fs)
    out n k e fs less = grind (arith, nat_tests)

pub place_from : (low n : ℕ) (d : Counted) (fs : List (ℕ × Counted)) (i : ℕ) → AreFieldsOrdered low (listed fs) → slice_get fs i ≡ Some (n, d) → IsPlaceOf n fs i
place_from low n d [] i order here = cc
place_from low n d (f ∷ fs) zero order here = let same : f ≡ (n, d) = cc in subst (λ g. IsPlaceOf n (g ∷ fs) 0) (sym same) (place_first n d fs)
place_from low n d (f ∷ fs) (suc i) order here =
    place_later n f fs i (let h = at_least (f.0 + 1) n d fs i order.2 here in omega arith) (place_from (f.0 + 1) n d fs i order.2 here)

-- ---- one that does not

gap_first : (n : ℕ) (fs : List (ℕ × Counted)) → IfSome (slice_get fs 0) (λ f. n < f.0) → IsGapFor n fs 0
gap_first n [] after = record { inside = omega arith; none = refl; filled = λ d. refl }
gap_first n (f ∷ fs) after = record { inside = omega arith; none = below_first n f.0 f.1 (listed fs) after; filled = λ d. put n d f.0 f.1 (listed fs) after }
  where
    put : (n : ℕ) (d : Counted) (k : ℕ) (e : Counted) (fs : Fields) → n < k → a_field n d (a_field k e fs) ≡ put_field n d (a_field k e fs)
    put n d k e fs less = grind (arith, nat_tests)

gap_later : (n : ℕ) (f : ℕ × Counted) (fs : List (ℕ × Counted)) (i : ℕ) → f.0 < n → IsGapFor n fs i → IsGapFor n (f ∷ fs) (suc i)
gap_later n f fs i less later = record {
  inside = let h = later.inside in omega arith;
  none = after_first n f.0 f.1 (listed fs) less ∙ later.none;
  filled = λ d. ap (a_field f.0 f.1) (later.filled d) ∙ put n d f.0 f.1 (listed fs) less;
}
  where
    put : (n : ℕ) (d : Counted) (k : ℕ) (e : Counted) (fs : Fields) → k < n → a_field k e (put_field n d fs) ≡ put_field n d (a_field k e fs)
    put n d k e fs less = grind (arith, nat_tests)

pub gap_from : (n : ℕ) (fs : List (ℕ × Counted)) (i : ℕ) → i ≤ length fs → AllByRecursion (λ f. f.0 < n) (take i fs) → IfSome (slice_get fs i) (λ f. n < f.0) → IsGapFor n fs i
gap_from n fs zero inside before after = gap_first n fs after
gap_from n [] (suc i) inside before after = absurd (omega arith)
gap_from n (f ∷ fs) (suc i) inside before after = gap_later n f fs i before.0 (gap_from n fs i (omega arith) before.1 after)

-- ---- what a binary search by number finds

module _ {X : Type 0} (seen : X → ℕ × Counted) where
  lowest : (low : ℕ) (fs : List X) (i : ℕ) (d : X) → AreFieldsOrdered low (listed (map seen fs)) → i < length fs → low ≤ (seen (get_or fs i d)).0
  lowest low [] i d order inside = absurd (omega arith)
  lowest low (f ∷ fs) zero d order inside = order.0
  lowest low (f ∷ fs) (suc i) d order inside = omega (arith, order.0, lowest ((seen f).0 + 1) fs i d order.2 (omega arith))

  numbers_rise : (low : ℕ) (fs : List X) (i j : ℕ) (d : X) → AreFieldsOrdered low (listed (map seen fs)) → i ≤ j → j < length fs → (seen (get_or fs i d)).0 ≤ (seen (get_or fs j d)).0
  numbers_rise low [] i j d order le inside = absurd (omega arith)
  numbers_rise low (f ∷ fs) zero zero d order le inside = omega arith
  numbers_rise low (f ∷ fs) zero (suc j) d order le inside = omega (arith, lowest ((seen f).0 + 1) fs j d order.2 (omega arith))
  numbers_rise low (f ∷ fs) (suc i) zero d order le inside = absurd (omega arith)
  numbers_rise low (f ∷ fs) (suc i) (suc j) d order le inside = numbers_rise ((seen f).0 + 1) fs i j d order.2 (omega arith) (omega arith)

  stands_at : (n : ℕ) (fs : List X) (i : ℕ) → i < length fs → ((d : X) → (seen (get_or fs i d)).0 ≡ n) → (e : Counted) × (slice_get (map seen fs) i ≡ Some (n, e))
  stands_at n [] i inside here = absurd (omega arith)
  stands_at n (f ∷ fs) zero inside here = ((seen f).1, ap (λ m. let pair : ℕ × Counted = (m, (seen f).1) in Some pair) (here f))
  stands_at n (f ∷ fs) (suc i) inside here = stands_at n fs i (omega arith) here

  all_below : (n : ℕ) (fs : List X) (i : ℕ) → i ≤ length fs → ((k : ℕ) (d : X) → k < i → (seen (get_or fs k d)).0 < n) → AllByRecursion (λ f. f.0 < n) (take i (map seen fs))
  all_below n fs zero inside below = tt
  all_below n [] (suc i) inside below = absurd (omega arith)
  all_below n (f ∷ fs) (suc i) inside below = (below 0 f (omega arith), all_below n fs i (omega arith) (λ k d less. below (suc k) d (omega arith)))

  next_above : (n : ℕ) (fs : List X) (i : ℕ) → ((k : ℕ) (d : X) → i ≤ k → k < length fs → n < (seen (get_or fs k d)).0) → IfSome (slice_get (map seen fs) i) (λ f. n < f.0)
  next_above n [] i above = tt
  next_above n (f ∷ fs) zero above = above 0 f (omega arith) (omega arith)
  next_above n (f ∷ fs) (suc i) above = next_above n fs i (λ k d le less. above (suc k) d (omega arith) (omega arith))

  pub searched : (n : ℕ) (fs : List X) (r : Result ℕ ℕ) → AreFieldsOrdered 0 (listed (map seen fs)) → IsSearchInRange r (length fs) → IsBinarySearchResult (λ f. nat_cmp (seen f).0 n) fs r
      → record { found : IfOk r (IsPlaceOf n (map seen fs)); missing : IfErr r (IsGapFor n (map seen fs)) }
  searched n fs (Ok i) order inside equal =
      let there = stands_at n fs i inside (λ d. ranked _ n _ (sym (equal d))) in
      record { found = place_from 0 n there.0 (map seen fs) i order there.1; missing = tt }
  searched n fs (Err i) order inside parted =
      let rise : IsNonDecreasingBy (λ f. ordering_index (nat_cmp (seen f).0 n)) fs = λ i j d le less. rises _ _ n (numbers_rise 0 fs i j d order le less) in
      record {
        found = tt;
        missing = gap_from n (map seen fs) i (rw (length-map) inside)
            (all_below n fs i inside (λ k d less. ranked _ n _ (sym ((parted rise).0 k d (omega arith) less))))
            (next_above n fs i (λ k d le less. ranked _ n _ (sym ((parted rise).1 k d le less))));
      }
    where
      rises : (a b n : ℕ) → a ≤ b → ordering_index (nat_cmp a n) ≤ ordering_index (nat_cmp b n)
      rises a b n le = grind (arith, nat_tests)
