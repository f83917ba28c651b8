-- How many bytes the numbers of a column take.
use Rattle.std.proofs.Common.{◌≡◌, ◌≤◌, ◌*◌, ℕ, zero, suc, List, [], ◌∷◌, length, arith, length-append}
use Rattle.std.proofs.lemmas.Bool.Decides.{nat_tests}
use Rattle.std.proofs.lemmas.Nat.{mul-le}
use Rattle.std.specs.Int.{bytes_high_first}
use Rattle.tc_bits.proofs.Values.{length-high_first}
use Rattle.tc_record.specs.Record.{greatest, width, width_of, numbers}

pub length-numbers : (w : ℕ) (ns : List ℕ) → length (numbers w ns) ≡ length ns * w
length-numbers w [] = omega arith
length-numbers w (n ∷ ns) = grind (arith, length-append (bytes_high_first w n) (numbers w ns), length-high_first w n, length-numbers w ns)

-- ---- a least width has one byte at least, and four at most

pub width_of-le : (n : ℕ) → width_of n ≤ 4
width_of-le n = grind (arith, nat_tests)

pub width_of-some : (n : ℕ) → 1 ≤ width_of n
width_of-some n = grind (arith, nat_tests)

pub covered : (v w : ℕ) → 1 ≤ w → w ≤ 4 → v ≤ v * w
covered v zero some small = absurd (omega arith)
covered v (suc zero) some small = omega arith
covered v (suc (suc zero)) some small = omega arith
covered v (suc (suc (suc zero))) some small = omega arith
covered v (suc (suc (suc (suc zero)))) some small = omega arith
covered v (suc (suc (suc (suc (suc w))))) some small = absurd (omega arith)

-- so has each number
pub bytes_each : (ns : List ℕ) → length ns ≤ length (numbers (width ns) ns)
bytes_each [] = omega arith
bytes_each (n ∷ ns) = omega (arith, length-numbers (width (n ∷ ns)) (n ∷ ns), covered (length (n ∷ ns)) (width (n ∷ ns)) (width_of-some (greatest (n ∷ ns))) (width_of-le (greatest (n ∷ ns))))

pub bytes_most : (ns : List ℕ) → length (numbers (width ns) ns) ≤ length ns * 4
bytes_most [] = omega arith
bytes_most (n ∷ ns) =
    let most : length (n ∷ ns) * width (n ∷ ns) ≤ length (n ∷ ns) * 4 = mul-le (length (n ∷ ns)) (width (n ∷ ns)) (length (n ∷ ns)) 4 (omega arith) (width_of-le (greatest (n ∷ ns))) in
    omega (arith, length-numbers (width (n ∷ ns)) (n ∷ ns), most)
