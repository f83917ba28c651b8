-- The text that a number is read from is the one that is printed of it.
use Rattle.std.proofs.Common.{◌≡◌, ◌∙◌, ap, sym, ℕ, ◌<◌, ◌≤◌, ◌^◌, ◌&&◌, cond, true, false, nat_le, nat_lt, not, Bool, List, [], ◌∷◌, length, Some, None, refl, arith, get_or, zero, suc}
use Rattle.std.specs.Char.{is_ascii_digit}
use Rattle.std.specs.Fmt.{decimal}
use Rattle.std.specs.List.{list_all}
use Rattle.std.specs.Prelude.{option_and_then}
use Rattle.std.proofs.lemmas.Bool.{lt-ltb}
use Rattle.std.proofs.lemmas.Bool.Decides.{nat_tests}
use Rattle.std.proofs.lemmas.Fmt.{decimal-digits_value, digits_decimal, digits_value-decimal, decimal_nonempty, first_decimal, length-decimal-le}
use Rattle.tc_number.proofs.NumberLemmas.{own, in_range}
use Rattle.tc_number.specs.Number.{has_leading_zero, is_number, number_after, number_between, number_of}
use Rattle.tc_number.specs.Printed.{ArePrinted}

between : (least most n m : ℕ) → cond (nat_le least n && nat_le n most) (Some n) None ≡ Some m → (least ≤ m) × (m ≤ most) × (n ≡ m)
between least most n m is = grind (arith, nat_tests)

and_parts : (a b c : Bool) → (a && (b && not c)) ≡ true → (a ≡ true) × (b ≡ true) × (c ≡ false)
and_parts true true false is = (refl, refl, refl)
and_parts true true true is = absurd (cc)
and_parts true false c is = absurd (cc)
and_parts false b c is = absurd (cc)

first_zero : (ds : List ℕ) → 0 < length ds → has_leading_zero ds ≡ false → get_or ds 0 0 ≡ 48 → length ds ≡ 1
first_zero ds some plain is_zero = grind (arith, nat_tests)

written : (ds : List ℕ) → is_number ds ≡ true → number_after 0 ds < 2 ^ 64 → decimal (number_after 0 ds) ≡ ds
written ds is small =
    let parts : (nat_lt 0 (length ds) ≡ true) × (list_all is_ascii_digit ds ≡ true) × (has_leading_zero ds ≡ false) = and_parts _ _ _ is in
    let some : 0 < length ds = grind (arith, nat_tests, parts.0) in
    decimal-digits_value own ds parts.1 some (first_zero ds some parts.2) small

through : (b : Bool) (least most v n : ℕ)
    → option_and_then (λ m. cond (nat_le least m && nat_le m most) (Some m) None) (cond b (Some v) None) ≡ Some n
    → (b ≡ true) × (least ≤ n) × (n ≤ most) × (v ≡ n)
through true least most v n is =
    let p : (least ≤ n) × (n ≤ most) × (v ≡ n) = between least most v n is in
    (refl, p.0, p.1, p.2)
through false least most v n is = absurd (cc)

-- what is read as a number is that number's digits
printed : (least most : ℕ) (ds : List ℕ) (n : ℕ) → most < 2 ^ 64 → number_between least most ds ≡ Some n
    → (ds ≡ decimal n) × (least ≤ n) × (n ≤ most)
printed least most ds n small is =
    let parts : (is_number ds ≡ true) × (least ≤ n) × (n ≤ most) × (number_after 0 ds ≡ n) = through (is_number ds) least most (number_after 0 ds) n is in
    let same : number_after 0 ds ≡ n = parts.3 in
    (sym (written ds parts.0 (omega (arith, same, parts.2, small))) ∙ ap decimal same, parts.1, parts.2)

from_first : (ds : List ℕ) → 48 < get_or ds 0 0 → has_leading_zero ds ≡ false
from_first [] h = refl
from_first (d ∷ ds) h = grind (arith, nat_tests)

from_one : (ds : List ℕ) → length ds ≤ 1 → has_leading_zero ds ≡ false
from_one ds h = grind (arith, nat_tests)

plain : (n : ℕ) → n < 2 ^ 64 → has_leading_zero (decimal n) ≡ false
plain zero small = from_one (decimal 0) (length-decimal-le 1 0 (omega arith) (omega arith) (omega arith))
plain (suc n) small = from_first (decimal (suc n)) (first_decimal (suc n) (omega arith) small)

is_printed : (n : ℕ) → n < 2 ^ 64 → number_of (decimal n) ≡ Some n
is_printed n small =
    let first : nat_lt 0 (length (decimal n)) ≡ true = lt-ltb 0 (length (decimal n)) (decimal_nonempty n small) in
    let digits : list_all is_ascii_digit (decimal n) ≡ true = digits_decimal own n small in
    rw (first, digits, plain n small) (ap Some (digits_value-decimal own n small))

-- the digits of a number are read as it
read_back : (least most n : ℕ) → least ≤ n → n ≤ most → most < 2 ^ 64 → number_between least most (decimal n) ≡ Some n
read_back least most n above below small =
    ap (option_and_then (λ m. cond (nat_le least m && nat_le m most) (Some m) None)) (is_printed n (omega (arith, below, small)))
    ∙ in_range least most n above below

pub are_printed : ArePrinted
are_printed least most text n small =
    (printed least most text n small, λ is. ap (number_between least most) is.0 ∙ read_back least most n is.1 is.2 small)
