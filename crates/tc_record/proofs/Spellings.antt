-- How the numbers of a column are spelled: as the elements of a column of bits, whose width is the least for them.
use Rattle.std.proofs.Common.{◌≡◌, ◌≢◌, ◌≤◌, ◌<◌, ◌-◌, ◌*◌, ◌^◌, ◌==◌, ℕ, suc, max, nat_lt, Bool, true, false, if◌then◌else◌, IsTrue, List, [], ◌∷◌, refl, sym, subst, arith}
use Rattle.std.specs.List.{AllByRecursion}
use Rattle.std.proofs.Math.Nat.{pow-le-pow_right}
use Rattle.std.proofs.lemmas.Bool.Decides.{nat_tests}
use Rattle.std.specs.Int.Count.{count_leading_zeros}
use Rattle.tc_bits.specs.Bits.{digits, column, is_width_for, IsColumn}
use Rattle.tc_bits.proofs.ByteColumns.{numbers_are_columns}
use Rattle.tc_bits.proofs.Digits.{digits-hold}
use Rattle.tc_bits.proofs.Joined.{AreBelow}
use Rattle.tc_record.specs.Record.{greatest, width_of, Spelling, width_in, in_bytes, in_bits, packed_form, spelling_of}
use Rattle.tc_record.proofs.NumberLengths.{width_of-le, width_of-some}

-- the least width has bits enough for a number, and no more than 32; and a column in a width is one of its bits
pub record IsSpelling (s : Spelling) : Type 0 where
  pub none : s.bits 0 ≡ 0
  pub some : (g : ℕ) → 1 ≤ s.bits (s.least g)
  pub most : (g : ℕ) → s.bits (s.least g) ≤ 32
  pub holds : (g : ℕ) → g < 2 ^ 32 → g < 2 ^ s.bits (s.least g)
  pub column : (w : ℕ) (ns : List ℕ) → AreBelow (s.bits w) ns → s.column w ns ≡ column (s.bits w) ns

-- ---- the greatest of numbers

pub each_below : (limit : ℕ) (ns : List ℕ) → greatest ns < limit → AllByRecursion (λ n. n < limit) ns
each_below limit [] below = tt
each_below limit (n ∷ ns) below = (omega (arith, below), each_below limit ns (omega (arith, below)))

pub greatest-below : (ns : List ℕ) → AreBelow 32 ns → greatest ns < 2 ^ 32
greatest-below [] each = omega arith
greatest-below (n ∷ ns) each = let rest = greatest-below ns each.1 in let first = each.0 in omega (arith, rest, first)

some_width : (w k : ℕ) → 1 ≤ w → IsTrue (is_width_for w (suc k))
some_width w k some = grind (arith, nat_tests)

-- what has fewer bits has no more than 32
pub wider : (w : ℕ) (ns : List ℕ) → w ≤ 32 → AreBelow w ns → AreBelow 32 ns
wider w [] most each = tt
wider w (n ∷ ns) most each =
    let more : 2 ^ w ≤ 2 ^ 32 = pow-le-pow_right (omega arith) most in let first = each.0 in (omega (arith, more, first), wider w ns most each.1)

-- numbers of 32 bits in the least width for them are a column
pub column_spelled : (s : Spelling) → IsSpelling s → (ns : List ℕ) → AreBelow 32 ns → IsColumn (s.bits (width_in s ns)) ns (s.column (width_in s ns) ns)
column_spelled s is [] each =
    let none = is.none in
    record { most = omega (arith, none); fits = no_width (s.bits 0) none; each = tt; spelled = is.column 0 [] tt }
  where
    no_width : (w : ℕ) → w ≡ 0 → IsTrue (is_width_for w 0)
    no_width w none = rw none refl
column_spelled s is (n ∷ ns) each =
    let g = greatest (n ∷ ns) in
    let held = each_below (2 ^ s.bits (s.least g)) (n ∷ ns) (is.holds g (greatest-below (n ∷ ns) each)) in
    record { most = is.most g; fits = some_width (s.bits (s.least g)) _ (is.some g); each = held; spelled = is.column (s.least g) (n ∷ ns) held }

-- ---- in whole bytes

pub bytes_hold : (g : ℕ) → g < 2 ^ 32 → g < 2 ^ (8 * width_of g)
bytes_hold g small = by_tests (nat_lt g 256) (nat_lt g 65536) refl refl
  where
    by_tests : (a b : Bool) → nat_lt g 256 ≡ a → nat_lt g 65536 ≡ b → g < 2 ^ (8 * (if a then 1 else (if b then 2 else 4)))
    by_tests true b one two = grind (arith, nat_tests)
    by_tests false true one two = grind (arith, nat_tests)
    by_tests false false one two = small

pub bytes_spell : IsSpelling in_bytes
bytes_spell = record {
  none = refl;
  some = λ g. let some = width_of-some g in omega (arith, some);
  most = λ g. let few = width_of-le g in omega (arith, few);
  holds = bytes_hold;
  column = numbers_are_columns;
}

-- ---- in bits

digits_are : (n : ℕ) → digits n ≡ max (32 - count_leading_zeros 32 n) 1
digits_are n = turned (32 - count_leading_zeros 32 n)
  where
    turned : (d : ℕ) → max 1 d ≡ max d 1
    turned d = omega arith

digits-most : (n : ℕ) → digits n ≤ 32
digits-most n = omega arith

digits-some : (n : ℕ) → 1 ≤ digits n
digits-some n = omega arith

pub bits_spell : IsSpelling in_bits
bits_spell = record {
  none = refl;
  some = digits-some;
  most = digits-most;
  holds = λ g small. subst (λ d. g < 2 ^ d) (sym (digits_are g)) (digits-hold g small);
  column = λ w ns each. refl;
}

-- each form spells its numbers so
pub form_spells : (form : ℕ) → IsSpelling (spelling_of form)
form_spells form = by_test (form == packed_form)
  where
    by_test : (b : Bool) → IsSpelling (if b then in_bits else in_bytes)
    by_test true = bits_spell
    by_test false = bytes_spell

-- and which that is
pub packed_spelling : (form : ℕ) → form ≡ packed_form → spelling_of form ≡ in_bits
packed_spelling form is = rw is refl

pub bytes_spelling : (form : ℕ) → form ≢ packed_form → spelling_of form ≡ in_bytes
bytes_spelling form other = rw (not_packed form other) refl
  where
    not_packed : (form : ℕ) → form ≢ 2 → (form == 2) ≡ false
    not_packed form other = grind (arith, nat_tests)
