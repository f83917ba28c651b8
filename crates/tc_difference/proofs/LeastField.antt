-- The field of the least name of those that differ, when one more number is looked at.
use Rattle.std.proofs.Common.{◌≡◌, ◌⊎◌, inl, inr, ℕ, ◌+◌, ◌<◌, ◌≤◌, true, List, Option, Some, None, refl, ap, subst, arith}
use Rattle.std.specs.declared.cmp.Ordering.{Ordering}
use Rattle.std.specs.declared.cmp.Ordering.TheVariants.{Less, Equal, Greater}
use Rattle.std.specs.Ordering.{is_lt}
use Rattle.std.proofs.lemmas.Bool.{cases_lt}
use Rattle.std.proofs.lemmas.Cmp.{nat_list_cmp_total, tied_itself}
use Rattle.tc_model.specs.Document.{Name, name_cmp}
use Rattle.tc_schema_model.specs.Counted.{Fields, field_at, shows}
use Rattle.tc_schema_model.specs.SchemaText.{name_at}
use Rattle.tc_difference.specs.declared.met.Candidate.{Candidate}
use Rattle.tc_difference.specs.declared.met.Met.{Met}
use Rattle.tc_difference.specs.Differences.{IsFirstBetween}
use Rattle.tc_difference.specs.Comparing.{met_meant, ShowTheSame, IsLeastBelow, is_before, is_wanted}

-- ---- the order of names

is_less : (names : List Name) (n m : ℕ) → is_before names n m ≡ true → name_cmp (name_at names n) (name_at names m) ≡ Less
is_less names n m before = by (name_cmp (name_at names n) (name_at names m)) refl before
  where
    by : (o : Ordering) → name_cmp (name_at names n) (name_at names m) ≡ o → is_lt o ≡ true → name_cmp (name_at names n) (name_at names m) ≡ Less
    by Less is before = is
    by Equal is before = cc before
    by Greater is before = cc before

before_trans : (names : List Name) (n m k : ℕ) → is_before names n m ≡ true → is_before names m k ≡ true → is_before names n k ≡ true
before_trans names n m k first second =
    ap is_lt (nat_list_cmp_total.trans (name_at names n) (name_at names m) (name_at names k) (is_less names n m first) (is_less names m k second))

not_before_itself : (names : List Name) (n : ℕ) → is_before names n n ≡ true → ⊥
not_before_itself names n before = let tied = tied_itself nat_list_cmp_total (name_at names n) in cc

-- ---- one number more

module _ (names : List Name) (fs gs : Fields) where
  -- what is known of the numbers below this one, and of this one
  one_more : (P : ℕ → Type 0) (n k : ℕ) → k < n + 1 → (k < n → P k) → P n → P k
  one_more P n k below earlier here = by (cases_lt k n)
    where
      by : (k < n) ⊎ (n ≤ k) → P k
      by (inl less) = earlier less
      by (inr le) = subst P (omega (arith, below, le)) here

  -- they differ, and the name comes before
  pub found_there : (n : ℕ) (met : Met) (least : Option Candidate) → is_wanted names n least ≡ true → IsFirstBetween names (field_at n fs) (field_at n gs) (met_meant names met) → IsLeastBelow names n fs gs least
      → IsLeastBelow names (n + 1) fs gs (Some (record { number = n; met = met }))
  found_there n met least wanted it is = (omega arith, it, λ k below before. one_more (λ k. is_before names k n ≡ true → ShowTheSame names (field_at k fs) (field_at k gs)) n k below (earlier least wanted is k) (λ itself. absurd (not_before_itself names n itself)) before)
    where
      earlier : (least : Option Candidate) → is_wanted names n least ≡ true → IsLeastBelow names n fs gs least → (k : ℕ) → k < n → is_before names k n ≡ true → ShowTheSame names (field_at k fs) (field_at k gs)
      earlier None wanted is k less before = is k less
      earlier (Some f) wanted is k less before = is.2 k less (before_trans names k n f.number before wanted)

  -- there is nothing else up to a number
  pub up_to : (low n : ℕ) (least : Option Candidate) → low ≤ n → ((k : ℕ) → low ≤ k → k < n → field_at k fs ≡ field_at k gs) → IsLeastBelow names low fs gs least → IsLeastBelow names n fs gs least
  up_to low n least le same is = by least is
    where
      there : (k : ℕ) → k < n → (k < low → ShowTheSame names (field_at k fs) (field_at k gs)) → ShowTheSame names (field_at k fs) (field_at k gs)
      there k below earlier = each (cases_lt k low)
        where
          each : (k < low) ⊎ (low ≤ k) → ShowTheSame names (field_at k fs) (field_at k gs)
          each (inl less) = earlier less
          each (inr ge) = λ path t. ap (λ d. shows names d path t) (same k ge below)

      by : (least : Option Candidate) → IsLeastBelow names low fs gs least → IsLeastBelow names n fs gs least
      by None is = λ k below. there k below (is k)
      by (Some f) is = (omega (arith, is.0, le), is.1, λ k below before. there k below (λ less. is.2 k less before))
