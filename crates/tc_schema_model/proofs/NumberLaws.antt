-- The numbers of names.
use Rattle.std.proofs.Common.{◌≡◌, ℕ, zero, suc, ◌<◌, Bool, true, false, List, [], ◌∷◌, Option, Some, None, option_map, length, bytes_eq, slice_get, if◌then◌else◌, refl, sym, ap, ◌∙◌, subst, arith}
use Rattle.std.proofs.lemmas.Slice.Eq.{bytes_eq-Decides}
use Rattle.std.proofs.lemmas.Cmp.{nat_list_eq_equiv}
use Rattle.std.specs.List.{IsDistinct, AllByRecursion}
use Rattle.tc_schema_model.specs.SchemaText.{name_at}
use Rattle.tc_model.specs.Document.{Name}
use Rattle.tc_model.specs.Dictionary.{number_of}

-- at a number of a name stands the name
pub name_stands : (names : List Name) (name : Name) (n : ℕ) → number_of names name ≡ Some n → (n < length names) × (slice_get names n ≡ Some name)
name_stands [] name n found = cc
name_stands (first ∷ names) name n found = at_first first names name n (bytes_eq-Decides name first) (λ m. name_stands names name m) found
  where
    later : (first : Name) (names : List Name) (name : Name) (o : Option ℕ) (n : ℕ) → ((m : ℕ) → o ≡ Some m → (m < length names) × (slice_get names m ≡ Some name)) → option_map suc o ≡ Some n
        → (n < length (first ∷ names)) × (slice_get (first ∷ names) n ≡ Some name)
    later first names name None n stands found = cc
    later first names name (Some m) n stands found =
        let same : suc m ≡ n = cc in
        let there = stands m refl in
        subst (λ k. (k < length (first ∷ names)) × (slice_get (first ∷ names) k ≡ Some name)) same (omega (arith, there.0), there.1)

    at_first : (first : Name) (names : List Name) (name : Name) (n : ℕ) → (bytes_eq name first ≡ true → name ≡ first) × (name ≡ first → bytes_eq name first ≡ true) → ((m : ℕ) → number_of names name ≡ Some m → (m < length names) × (slice_get names m ≡ Some name)) → number_of (first ∷ names) name ≡ Some n
        → (n < length (first ∷ names)) × (slice_get (first ∷ names) n ≡ Some name)
    at_first first names name n decides stands found =
        by_test (bytes_eq name first) decides.0 found
      where
        by_test : (test : Bool) → (test ≡ true → name ≡ first) → (if test then Some 0 else option_map suc (number_of names name)) ≡ Some n → (n < length (first ∷ names)) × (slice_get (first ∷ names) n ≡ Some name)
        by_test true same found =
            let zero_is : 0 ≡ n = cc in
            subst (λ k. (k < length (first ∷ names)) × (slice_get (first ∷ names) k ≡ Some name)) zero_is (omega arith, ap Some (sym (same refl)))
        by_test false same found = later first names name (number_of names name) n stands found

-- two names of one number are one name
pub one_name : (names : List Name) (a b : Name) (n : ℕ) → number_of names a ≡ Some n → number_of names b ≡ Some n → a ≡ b
one_name names a b n first second =
    let there = (name_stands names a n first).1 in
    let same = (name_stands names b n second).1 in cc

-- a name has the number of its place, where the names are distinct
pub number_of_name_at : (names : List Name) (n : ℕ) → IsDistinct bytes_eq names → n < length names → number_of names (name_at names n) ≡ Some n
unfolding IsDistinct
number_of_name_at [] n distinct inside = absurd (omega arith)
number_of_name_at (first ∷ names) zero distinct inside = rw ((bytes_eq-Decides first first).1 refl) refl
number_of_name_at (first ∷ names) (suc n) distinct inside =
    let later = number_of_name_at names n distinct.1 (omega arith) in
    rw (apart names n (omega arith) distinct.0, later) refl
  where
    apart : (names : List Name) (n : ℕ) → n < length names → AllByRecursion (λ y. bytes_eq first y ≡ false) names → bytes_eq (name_at names n) first ≡ false
    apart [] n inside all = absurd (omega arith)
    apart (y ∷ names) zero inside all = nat_list_eq_equiv.symm y first ∙ all.0
    apart (y ∷ names) (suc n) inside all = apart names n (omega arith) all.1
