-- Numbers of whole bytes are a column of bits.
use Rattle.std.proofs.Common.{◌≡◌, ◌<◌, ℕ, zero, suc, ◌+◌, ◌-◌, ◌*◌, ◌/◌, ◌^◌, List, [], ◌∷◌, ◌++◌, length, flat_map, sym, ap, ◌∙◌, subst, arith}
use Rattle.std.specs.Int.{bytes_high_first, byte_at}
use Rattle.std.specs.List.{AllByRecursion}
use Rattle.tc_bits.specs.Bits.{joined, column_size, filling, column, field_of}
use Rattle.tc_bits.proofs.Fields.{field-after}
use Rattle.tc_bits.proofs.Values.{byte_is}
use Rattle.tc_bits.proofs.Joined.{joined-below}
use Rattle.tc_bits.proofs.Codec.{high_first-low}

-- bytes of a number that stand above others
pub high_first-append : (k j a b : ℕ) → b < 2 ^ (8 * j) → bytes_high_first (k + j) (a * 2 ^ (8 * j) + b) ≡ bytes_high_first k a ++ bytes_high_first j b
high_first-append zero j a b below =
    ap (λ m. bytes_high_first m (a * 2 ^ (8 * j) + b)) (plain j) ∙ ap (λ m. bytes_high_first j (a * 2 ^ (8 * m) + b)) (more j) ∙ high_first-low j 0 a b
  where
    plain : (j : ℕ) → 0 + j ≡ j
    plain j = omega arith

    more : (j : ℕ) → j ≡ j + 0
    more j = omega arith
high_first-append (suc k) j a b below =
    let n = a * 2 ^ (8 * j) + b in
    let first : byte_at (k + j) n ≡ byte_at k a =
    byte_is (k + j) n ∙ ap (λ m. field_of m 8 n) (spread k j) ∙ field-after (8 * k) (8 * j) 8 a b below ∙ sym (byte_is k a) in
    let next : suc k + j ≡ suc (k + j) = omega arith in
    ap (λ m. bytes_high_first m n) next
    ∙ ap (λ c. c ∷ bytes_high_first (k + j) n) first
    ∙ ap (λ bs. byte_at k a ∷ bs) (high_first-append k j a b below)
  where
    spread : (k j : ℕ) → 8 * (k + j) ≡ 8 * j + 8 * k
    spread k j = omega arith

numbers_are : (w : ℕ) (ns : List ℕ) → AllByRecursion (λ n. n < 2 ^ (8 * w)) ns → flat_map (bytes_high_first w) ns ≡ bytes_high_first (w * length ns) (joined (8 * w) ns)
numbers_are w [] each = sym (ap (λ m. bytes_high_first m 0) (nothing w))
  where
    nothing : (w : ℕ) → w * 0 ≡ 0
    nothing w = omega arith
numbers_are w (n ∷ ns) each =
    let k = length ns in
    let next : w + w * k ≡ w * suc k = omega arith in
    let low : joined (8 * w) ns < 2 ^ (8 * (w * k)) = subst (λ m. joined (8 * w) ns < 2 ^ m) (turned w k) (joined-below (8 * w) ns each.1) in
    ap (λ bs. bytes_high_first w n ++ bs) (numbers_are w ns each.1)
    ∙ sym (high_first-append w (w * k) n (joined (8 * w) ns) low)
    ∙ ap (λ m. bytes_high_first (w + w * k) (n * 2 ^ m + joined (8 * w) ns)) (sym (turned w k))
    ∙ ap (λ m. bytes_high_first m (joined (8 * w) (n ∷ ns))) next
  where
    turned : (w k : ℕ) → 8 * w * k ≡ 8 * (w * k)
    turned w k = omega arith

whole_bytes : (k : ℕ) → (8 * k + 7) / 8 ≡ k
whole_bytes k = omega arith

pub numbers_are_columns : (w : ℕ) (ns : List ℕ) → AllByRecursion (λ n. n < 2 ^ (8 * w)) ns → flat_map (bytes_high_first w) ns ≡ column (8 * w) ns
numbers_are_columns w ns each =
    let k = length ns in
    let size : column_size k (8 * w) ≡ w * k = ap (λ m. (m + 7) / 8) (turned w k) ∙ whole_bytes (w * k) in
    let none : filling k (8 * w) ≡ 0 = ap (λ m. 8 * m - k * (8 * w)) size ∙ ap (λ m. 8 * (w * k) - m) (turned w k) ∙ same (8 * (w * k)) in
    numbers_are w ns each
    ∙ ap (λ m. bytes_high_first m (joined (8 * w) ns)) (sym size)
    ∙ ap (λ v. bytes_high_first (column_size k (8 * w)) v) (times_one (joined (8 * w) ns))
    ∙ ap (λ f. bytes_high_first (column_size k (8 * w)) (joined (8 * w) ns * 2 ^ f)) (sym none)
  where
    turned : (w k : ℕ) → k * (8 * w) ≡ 8 * (w * k)
    turned w k = omega arith

    same : (n : ℕ) → n - n ≡ 0
    same n = omega arith

    times_one : (n : ℕ) → n ≡ n * 2 ^ 0
    times_one n = omega arith
