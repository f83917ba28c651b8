-- How wide the numbers of a column are in a form, and how long it is.
use Rattle.std.proofs.Common.{◌≡◌, ◌∙◌, ◌≤◌, ◌<◌, ◌+◌, ◌*◌, ◌/◌, ◌^◌, ℕ, List, [], ◌∷◌, length, sym, ap, arith}
use Rattle.std.proofs.lemmas.Nat.{mul-le}
use Rattle.std.specs.Int.{bytes_high_first}
use Rattle.tc_bits.specs.Bits.{digits, joined, column_size, filling, column}
use Rattle.tc_bits.proofs.Codec.{length-column}
use Rattle.tc_bits.proofs.Digits.{digits-least}
use Rattle.tc_bits.proofs.Joined.{AreBelow}
use Rattle.tc_record.specs.Record.{greatest, width_of, Spelling, width_in, column_in, in_bytes, in_bits}
use Rattle.tc_record.proofs.NumberLengths.{width_of-some}
use Rattle.tc_record.proofs.Spellings.{IsSpelling, each_below, greatest-below, column_spelled, bytes_hold, bytes_spell, bits_spell}

-- no width has more than 32 bits
width_room : (s : Spelling) → IsSpelling s → (ns : List ℕ) → s.bits (width_in s ns) ≤ 32
width_room s is [] = let none = is.none in omega (arith, none)
width_room s is (n ∷ ns) = is.most (greatest (n ∷ ns))

-- ---- a column of numbers of which the greatest is told

pub told_below : (s : Spelling) → IsSpelling s → (ns : List ℕ) (g : ℕ) → g < 2 ^ 32 → greatest ns ≡ g → AreBelow (s.bits (s.least g)) ns
told_below s is ns g small same = let held = is.holds g small in each_below (2 ^ s.bits (s.least g)) ns (omega (arith, held, same))

pub told_column : (s : Spelling) → IsSpelling s → (ns : List ℕ) (g : ℕ) → g < 2 ^ 32 → greatest ns ≡ g → column (s.bits (s.least g)) ns ≡ column_in s ns
told_column s is ns g small same = sym (is.column (s.least g) ns (told_below s is ns g small same)) ∙ in_least ns same
  where
    nothing : (w : ℕ) → column w [] ≡ []
    nothing w = let none : 0 * w ≡ 0 = omega arith in ap (λ b. bytes_high_first ((b + 7) / 8) (joined w [] * 2 ^ filling 0 w)) none

    in_least : (ns : List ℕ) → greatest ns ≡ g → s.column (s.least g) ns ≡ column_in s ns
    in_least [] same = is.column (s.least g) [] tt ∙ nothing (s.bits (s.least g)) ∙ sym (is.column 0 [] tt ∙ nothing (s.bits 0))
    in_least (n ∷ ns) same = ap (λ k. s.column (s.least k) (n ∷ ns)) (sym same)

-- ---- lengths

pub column_in-length : (s : Spelling) → IsSpelling s → (ns : List ℕ) → AreBelow 32 ns → length (column_in s ns) ≡ column_size (length ns) (s.bits (width_in s ns))
column_in-length s is ns each = ap length (column_spelled s is ns each).spelled ∙ length-column (s.bits (width_in s ns)) ns

-- each number takes four bytes at most
pub column_in-most : (s : Spelling) → IsSpelling s → (ns : List ℕ) → AreBelow 32 ns → length (column_in s ns) ≤ length ns * 4
column_in-most s is ns each = let len = column_in-length s is ns each in let most = four (length ns) (s.bits (width_in s ns)) (width_room s is ns) in omega (arith, len, most)
  where
    four : (count w : ℕ) → w ≤ 32 → column_size count w ≤ count * 4
    four count w few = let most : count * w ≤ count * 32 = mul-le count w count 32 (omega arith) few in omega (arith, most)

-- in bits they take no more than in whole bytes
pub bits-le : (ns : List ℕ) → AreBelow 32 ns → length (column_in in_bits ns) ≤ length (column_in in_bytes ns)
bits-le [] each = omega arith
bits-le (n ∷ ns) each =
    let g = greatest (n ∷ ns) in
    let small = greatest-below (n ∷ ns) each in
    let some = width_of-some g in
    let least = digits-least g (8 * width_of g) small (omega (arith, some)) (bytes_hold g small) in
    let less = sizes-le (length (n ∷ ns)) (digits g) (8 * width_of g) (omega (arith, least)) in
    let bits = column_in-length in_bits bits_spell (n ∷ ns) each in
    let bytes = column_in-length in_bytes bytes_spell (n ∷ ns) each in
    omega (arith, less, bits, bytes)
  where
    sizes-le : (count v w : ℕ) → v ≤ w → column_size count v ≤ column_size count w
    sizes-le count v w less = let more : count * v ≤ count * w = mul-le count v count w (omega arith) less in omega (arith, more)
