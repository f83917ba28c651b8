-- What policies pick of some sizes: this run, and no other one.
use Rattle.std.proofs.Common.{◌≡◌, ◌∙◌, ◌↔◌, ◌<◌, ◌≤◌, ℕ, zero, suc, List, [], ◌∷◌, length, inl, inr, refl, sym, ap, subst, arith}
use Rattle.tc_list.specs.declared.policy.Policy.{Policy}
use Rattle.tc_list.specs.declared.policy.Policy.TheVariants.{Constant, Sized}
use Rattle.tc_list.specs.declared.run.Run.{Run}
use Rattle.tc_list.specs.Policies.{listed_least, SuffixFits, BeginsAt, IsPicked}

-- the components from one position to another
abbrev from_to : ℕ → ℕ → Run
from_to first last = record { first = first; last = last }

-- ---- there is one pick

one_place : (policy : Policy) (sizes : List ℕ) (a b : ℕ) → BeginsAt policy sizes a → BeginsAt policy sizes b → a ≡ b
one_place (Constant k) sizes a b is other = is ∙ sym other
one_place (Sized k limit) sizes a b (inl is) (inl other) = omega (arith, is.longest b other.fits, other.longest a is.fits)
one_place (Sized k limit) sizes a b (inl is) (inr other) = absurd (other.0 a is.fits)
one_place (Sized k limit) sizes a b (inr is) (inl other) = absurd (is.0 b other.fits)
one_place (Sized k limit) sizes a b (inr is) (inr other) = is.1 ∙ sym other.1

one_pick : (policy : Policy) (sizes : List ℕ) (a b : Run) → IsPicked policy sizes a → IsPicked policy sizes b → a ≡ b
one_pick policy sizes a b is other =
    let first : a.first ≡ b.first = one_place policy sizes a.first b.first is.begins other.begins in
    let last : a.last ≡ b.last = omega (arith, is.ends, other.ends) in
    ap (λ n. from_to n a.last) first ∙ ap (from_to b.first) last

only : (policy : Policy) (sizes : List ℕ) (picked : Run) → IsPicked policy sizes picked → (run : Run) → IsPicked policy sizes run ↔ (run ≡ picked)
only policy sizes picked is run = (λ other. one_pick policy sizes run picked other is, λ same. subst (IsPicked policy sizes) (sym same) is)

-- ---- rows

abbrev three : List ℕ
three = 100 ∷ 50 ∷ 30 ∷ []

the_newer_two_fit : (run : Run) → IsPicked (Sized 3 90) three run ↔ (run ≡ from_to 1 2)
the_newer_two_fit = only (Sized 3 90) three (from_to 1 2) (record { begins = inl (record { fits = record { two = omega arith; small = omega arith }; longest = no_longer }); ends = refl })
  where
    no_longer : (other : ℕ) → SuffixFits 90 three other → 1 ≤ other
    no_longer zero fits = absurd (omega (arith, fits.small))
    no_longer (suc other) fits = omega arith

no_two_fit : (run : Run) → IsPicked (Sized 3 60) three run ↔ (run ≡ from_to 0 2)
no_two_fit = only (Sized 3 60) three (from_to 0 2) (record { begins = inr (none, refl); ends = refl })
  where
    none : (other : ℕ) → SuffixFits 60 three other → ⊥
    none zero fits = omega (arith, fits.small)
    none (suc zero) fits = omega (arith, fits.small)
    none (suc (suc other)) fits = omega (arith, fits.two)

abbrev two : List ℕ
two = 50 ∷ 30 ∷ []

two_are_too_few : length two < listed_least (Sized 3 90)
two_are_too_few = omega arith

all_are_picked : (run : Run) → IsPicked (Constant 3) three run ↔ (run ≡ from_to 0 2)
all_are_picked = only (Constant 3) three (from_to 0 2) (record { begins = refl; ends = refl })

-- the sum is none of 64 bits
sums_do_not_wrap : (run : Run) → IsPicked (Sized 2 18446744073709551614) (1 ∷ 18446744073709551615 ∷ 18446744073709551615 ∷ []) run ↔ (run ≡ from_to 0 2)
sums_do_not_wrap = only (Sized 2 18446744073709551614) (1 ∷ 18446744073709551615 ∷ 18446744073709551615 ∷ []) (from_to 0 2) (record { begins = inr (none, refl); ends = refl })
  where
    none : (other : ℕ) → SuffixFits 18446744073709551614 (1 ∷ 18446744073709551615 ∷ 18446744073709551615 ∷ []) other → ⊥
    none zero fits = omega (arith, fits.small)
    none (suc zero) fits = omega (arith, fits.small)
    none (suc (suc other)) fits = omega (arith, fits.two)
