-- What `parse` answers at a text of digits, in the words of the definitions.
use Rattle.std.proofs.Common.{rules, ◌≡◌, ◌∙◌, ap, sym, ℕ, ◌<◌, ◌≤◌, ◌^◌, ◌+◌, ◌&&◌, cond, true, false, nat_le, List, [], ◌∷◌, length, Some, None, Result, Ok, Err, refl, arith, suc, inl, inr}
use Rattle.std.specs.Char.{is_ascii_digit}
use Rattle.std.specs.List.{list_all}
use Rattle.std.specs.Result.{OkIff, result_ok}
use Rattle.std.specs.Str.Parse.{ParsesUnsigned}
use Rattle.std.proofs.lemmas.Bool.{cases_lt, lt-ltb}
use Rattle.std.proofs.lemmas.Bool.Decides.{nat_tests}
use Rattle.std.proofs.lemmas.Str.Parse.{IsNumeralModel, numerals_by_fold, parse_digits}
use Rattle.tc_number.specs.Number.{has_leading_zero, number_after, number_between, number_of}

pub own : IsNumeralModel (λ ds. list_all is_ascii_digit ds ≡ true) (number_after 0)
own = numerals_by_fold _ (search rules) number_after (search rules)

digits_of : (d : ℕ) (ds : List ℕ) → list_all is_ascii_digit (d ∷ ds) ≡ true → has_leading_zero (d ∷ ds) ≡ false
    → number_of (d ∷ ds) ≡ Some (number_after 0 (d ∷ ds))
digits_of d ds digits plain = rw (digits, plain) (rw (lt-ltb 0 (suc (length ds)) (omega arith)) refl)

pub in_range : (least most n : ℕ) → least ≤ n → n ≤ most → cond (nat_le least n && nat_le n most) (Some n) None ≡ Some n
in_range least most n above below = grind (arith, nat_tests)

past : (n most : ℕ) → most < n → cond (nat_le 0 n && nat_le n most) (Some n) None ≡ None
past n most lt = grind (arith, nat_tests)

-- where all fits below most + 1, the result of a parse of digits is the number
reads : {E : Type 0} (text : List ℕ) (r : Result ℕ E) (most : ℕ) → list_all is_ascii_digit text ≡ true
    → has_leading_zero text ≡ false → OkIff r ((0 < length text) × (number_after 0 text < most + 1)) (number_after 0 text)
    → result_ok r ≡ number_between 0 most text
reads [] (Ok x) most digits plain h = absurd (omega arith)
reads [] (Err e) most digits plain h = refl
reads (d ∷ ds) (Ok x) most digits plain h = ap Some h.1 ∙ sym (rw (digits_of d ds digits plain) (in_range 0 most _ (omega arith) (omega (arith, h.0.1))))
reads (d ∷ ds) (Err e) most digits plain h = elim (cases_lt (number_after 0 (d ∷ ds)) (most + 1)) [
  | inl under ↦ absurd (h (omega arith, under))
  | inr over ↦ sym (rw (digits_of d ds digits plain) (past (number_after 0 (d ∷ ds)) most (omega (arith, over))))
]

pub parsed : {E : Type 0} (text : List ℕ) (r : Result ℕ E) (most : ℕ) → ParsesUnsigned 64 10 text r
    → 2 ^ 64 ≡ most + 1 → list_all is_ascii_digit text ≡ true → has_leading_zero text ≡ false
    → result_ok r ≡ number_between 0 most text
parsed text r most h fits digits plain = reads text r most digits plain (rw (← fits) (parse_digits own 64 text r h digits))
