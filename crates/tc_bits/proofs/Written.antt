-- Numbers that are written one after the other are a column.
use Rattle.std.proofs.Common.{◌≡◌, ◌≤◌, ◌<◌, ℕ, suc, ◌+◌, ◌-◌, ◌*◌, ◌/◌, ◌%◌, ◌^◌, List, [], ◌∷◌, ◌++◌, length, refl, sym, ap, ◌∙◌, subst, arith, append_assoc, bit_and}
use Rattle.std.specs.Int.{bytes_high_first}
use Rattle.std.proofs.Math.Nat.{mod-eq_of_lt, pow-le-pow_right}
use Rattle.std.proofs.lemmas.Nat.{div_below, pow_pos, pow-add, shl_whole, shr_split, mod_below, one_shl, and_mask}
use Rattle.tc_bits.specs.Bits.{joined, column_size, filling, column, written}
use Rattle.tc_bits.proofs.ByteColumns.{high_first-append}
use Rattle.tc_bits.proofs.Joined.{AreBelow, stacked, joined-below}

-- ---- as 64 bits are moved

pub lowest_bits : (bits n : ℕ) → bits < 64 → bit_and n (1 * 2 ^ bits % 2 ^ 64 - 1) ≡ n % 2 ^ bits
lowest_bits bits n few = ap (λ m. bit_and n (m - 1)) (one_shl bits 64 few) ∙ and_mask n bits

-- bits with a number after them are as many together
pub joined_below : (waiting bits w n : ℕ) → waiting < 2 ^ bits → n < 2 ^ w → waiting * 2 ^ w + n < 2 ^ (bits + w)
joined_below waiting bits w n small fits = rw (pow-add 2 bits w) (stacked waiting n (2 ^ w) (2 ^ bits) small fits)

pub joined_is : (waiting bits w n m : ℕ) → bits < 32 → waiting < 2 ^ bits → w ≤ 32 → m ≡ n → waiting * 2 ^ w % 2 ^ 64 + m ≡ waiting * 2 ^ w + n
joined_is waiting bits w n m few small most same = rw (same, shl_whole waiting bits w 64 small (omega (arith, few, most))) refl

pub joined_fits : (waiting bits w n m : ℕ) → bits < 32 → waiting < 2 ^ bits → w ≤ 32 → n < 2 ^ w → m ≡ n → waiting * 2 ^ w % 2 ^ 64 + m < 2 ^ 64
joined_fits waiting bits w n m few small most fits same =
    let below = joined_below waiting bits w n small fits in
    let within : bits + w ≤ 64 = omega (arith, few, most) in
    let more : 2 ^ (bits + w) ≤ 2 ^ 64 = pow-le-pow_right (omega arith) within in
    rw (joined_is waiting bits w n m few small most same) (omega (arith, below, more))

-- four bytes above some bits
pub high_below : (number below : ℕ) → number < 2 ^ (32 + below) → number / 2 ^ below < 2 ^ 32
high_below number below small = div_below number (2 ^ below) (2 ^ 32) (pow_pos below) (subst (λ p. number < p) (pow-add 2 32 below) small)

-- ---- what is written

-- before the first number
pub nothing_written : (w : ℕ) (ns : List ℕ) → written (record { width = w; number = 0; bits = 0 }) ns ≡ column w ns
nothing_written w ns =
    let turned : 0 + w * length ns ≡ length ns * w = omega arith in
    ap (λ b. bytes_high_first ((b + 7) / 8) ((0 * 2 ^ (w * length ns) + joined w ns) * 2 ^ (8 * ((b + 7) / 8) - b))) turned
    ∙ ap (λ n. bytes_high_first (column_size (length ns) w) (n * 2 ^ filling (length ns) w)) (plain (2 ^ (w * length ns)) (joined w ns))
  where
    plain : (p n : ℕ) → 0 * p + n ≡ n
    plain p n = omega arith

-- one number more: the bytes that are written, and then what is written behind them
pub number_written : (w number bits n k r : ℕ) (ns : List ℕ) → AreBelow w ns → bits + w ≡ 8 * k + r
    → written (record { width = w; number = number; bits = bits }) (n ∷ ns)
    ≡ bytes_high_first k ((number * 2 ^ w + n) / 2 ^ r) ++ written (record { width = w; number = (number * 2 ^ w + n) % 2 ^ r; bits = r }) ns
number_written w number bits n k r ns each parts =
    let x = number * 2 ^ w + n in
    let y = x / 2 ^ r in
    let z = x % 2 ^ r in
    let more = w * length ns in
    let size = (r + more + 7) / 8 in
    let fill = 8 * size - (r + more) in
    let all : bits + w * length (n ∷ ns) ≡ 8 * k + (r + more) = total bits w (length ns) k r parts in
    let whole : (bits + w * length (n ∷ ns) + 7) / 8 ≡ k + size = ap (λ b. (b + 7) / 8) all ∙ sized k (r + more) in
    let rest : 8 * (k + size) - (bits + w * length (n ∷ ns)) ≡ fill = ap (λ b. 8 * (k + size) - b) all ∙ left k size (r + more) in
    let room : r + more + fill ≡ 8 * size = rounded (r + more) in
    let low : (z * 2 ^ more + joined w ns) * 2 ^ fill < 2 ^ (8 * size) =
    subst (λ b. (z * 2 ^ more + joined w ns) * 2 ^ fill < 2 ^ b) room (scaled (z * 2 ^ more + joined w ns) (r + more) fill (joined_below z r more (joined w ns) (mod_below x (2 ^ r) (pow_pos r)) (joined-below w ns each))) in
    let high : (number * 2 ^ (w * length (n ∷ ns)) + joined w (n ∷ ns)) * 2 ^ fill ≡ y * 2 ^ (8 * size) + (z * 2 ^ more + joined w ns) * 2 ^ fill =
    ap (λ p. (number * p + joined w (n ∷ ns)) * 2 ^ fill) (ap (λ b. 2 ^ b) (one_more w (length ns)) ∙ pow-add 2 w more)
    ∙ ap (λ a. a * 2 ^ fill) (grouped number n (2 ^ w) (2 ^ more) (joined w ns))
    ∙ ap (λ a. (a * 2 ^ more + joined w ns) * 2 ^ fill) (sym (shr_split x r))
    ∙ spread y (2 ^ r) z (2 ^ more) (joined w ns) (2 ^ fill)
    ∙ ap (λ p. y * p + (z * 2 ^ more + joined w ns) * 2 ^ fill) (ap (λ p. p * 2 ^ fill) (sym (pow-add 2 r more)) ∙ sym (pow-add 2 (r + more) fill) ∙ ap (λ b. 2 ^ b) room) in
    ap (λ s. bytes_high_first s ((number * 2 ^ (w * length (n ∷ ns)) + joined w (n ∷ ns)) * 2 ^ (8 * s - (bits + w * length (n ∷ ns))))) whole
    ∙ ap (λ f. bytes_high_first (k + size) ((number * 2 ^ (w * length (n ∷ ns)) + joined w (n ∷ ns)) * 2 ^ f)) rest
    ∙ ap (bytes_high_first (k + size)) high
    ∙ high_first-append k size y ((z * 2 ^ more + joined w ns) * 2 ^ fill) low
  where
    total : (bits w l k r : ℕ) → bits + w ≡ 8 * k + r → bits + w * suc l ≡ 8 * k + (r + w * l)
    total bits w l k r parts = let next : w * suc l ≡ w + w * l = omega arith in omega (arith, parts, next)

    sized : (k b : ℕ) → (8 * k + b + 7) / 8 ≡ k + (b + 7) / 8
    sized k b = omega arith

    left : (k s b : ℕ) → 8 * (k + s) - (8 * k + b) ≡ 8 * s - b
    left k s b = omega arith

    rounded : (b : ℕ) → b + (8 * ((b + 7) / 8) - b) ≡ 8 * ((b + 7) / 8)
    rounded b = omega arith

    one_more : (w l : ℕ) → w * suc l ≡ w + w * l
    one_more w l = omega arith

    grouped : (number n p q j : ℕ) → number * (p * q) + (n * q + j) ≡ (number * p + n) * q + j
    grouped number n p q j = omega arith

    spread : (y p z q j f : ℕ) → ((y * p + z) * q + j) * f ≡ y * (p * q * f) + (z * q + j) * f
    spread y p z q j f = omega arith

    scaled : (a b f : ℕ) → a < 2 ^ b → a * 2 ^ f < 2 ^ (b + f)
    scaled a b f below = subst (λ n. n < 2 ^ (b + f)) (nothing (a * 2 ^ f)) (joined_below a b f 0 below (pow_pos f))
      where
        nothing : (n : ℕ) → n + 0 ≡ n
        nothing n = omega arith

-- what is written once four bytes stand there
pub pushed_four : (w number bits n : ℕ) (before out ns : List ℕ) → 32 ≤ bits + w → out ≡ before ++ bytes_high_first 4 ((number * 2 ^ w + n) / 2 ^ (bits + w - 32)) → AreBelow w ns
    → out ++ written (record { width = w; number = (number * 2 ^ w + n) % 2 ^ (bits + w - 32); bits = bits + w - 32 }) ns ≡ before ++ written (record { width = w; number = number; bits = bits }) (n ∷ ns)
pushed_four w number bits n before out ns enough out_is each =
    let r = bits + w - 32 in
    let rest = written (record { width = w; number = (number * 2 ^ w + n) % 2 ^ r; bits = r }) ns in
    ap (λ bs. bs ++ rest) out_is
    ∙ append_assoc before (bytes_high_first 4 ((number * 2 ^ w + n) / 2 ^ r)) rest
    ∙ ap (λ bs. before ++ bs) (sym (number_written w number bits n 4 r ns each (omega (arith, enough))))

-- and where all bits go on to wait
pub pushed_none : (w number bits n : ℕ) (ns : List ℕ) → number < 2 ^ bits → n < 2 ^ w → AreBelow w ns
    → written (record { width = w; number = number * 2 ^ w + n; bits = bits + w }) ns ≡ written (record { width = w; number = number; bits = bits }) (n ∷ ns)
pushed_none w number bits n ns small fits each =
    ap (λ m. written (record { width = w; number = m; bits = bits + w }) ns) (sym (mod-eq_of_lt (joined_below number bits w n small fits)))
    ∙ sym (number_written w number bits n 0 (bits + w) ns each (omega arith))

-- and behind the last number
pub ended : (w number bits : ℕ) → written (record { width = w; number = number; bits = bits }) [] ≡ bytes_high_first ((bits + 7) / 8) (number * 2 ^ (8 * ((bits + 7) / 8) - bits))
ended w number bits =
    let total : bits + w * 0 ≡ bits = omega arith in
    ap (λ b. bytes_high_first ((b + 7) / 8) ((number * 2 ^ (w * 0) + 0) * 2 ^ (8 * ((b + 7) / 8) - b))) total
    ∙ ap (λ n. bytes_high_first ((bits + 7) / 8) (n * 2 ^ (8 * ((bits + 7) / 8) - bits))) (plain number w)
  where
    plain : (n w : ℕ) → n * 2 ^ (w * 0) + 0 ≡ n
    plain n w = let none : w * 0 ≡ 0 = omega arith in rw none (omega arith)
