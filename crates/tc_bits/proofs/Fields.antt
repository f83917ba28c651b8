-- Bits of a number: what higher and lower bits do to them, and what writing them leaves.
use Rattle.std.proofs.Common.{◌≡◌, ◌≤◌, ◌<◌, ℕ, ◌+◌, ◌-◌, ◌*◌, ◌/◌, ◌%◌, ◌^◌, sym, ap, ◌∙◌, subst, arith, bit_and}
use Rattle.std.proofs.Math.Nat.{mul-add-div_right, mul-add-mod_self_right}
use Rattle.std.proofs.lemmas.Nat.{pow_pos, pow-add, shr-shr, shr_high, mod_low, shr_split, mod-pow-add, mod_below, mul-le, shr_below, one_shl, and_mask}
use Rattle.tc_bits.specs.Bits.{field_of, with_field}

-- ---- reading

-- what stands below is of no account
pub field-after : (above t w high low : ℕ) → low < 2 ^ t → field_of (t + above) w (high * 2 ^ t + low) ≡ field_of above w high
field-after above t w high low below =
    ap (λ n. n % 2 ^ w) (sym (shr-shr (high * 2 ^ t + low) t above) ∙ ap (λ n. n / 2 ^ above) (shr_high high t low below))

down : (above k high low : ℕ) → (high * 2 ^ (k + above) + low) / 2 ^ above ≡ high * 2 ^ k + low / 2 ^ above
down above k high low =
    let split : high * 2 ^ (k + above) ≡ high * 2 ^ k * 2 ^ above = rw (pow-add 2 k above) (omega arith) in
    rw split (mul-add-div_right (pow_pos above) (high * 2 ^ k) low)

-- and so is what stands above
pub field-before : (above w r high low : ℕ) → field_of above w (high * 2 ^ (r + w + above) + low) ≡ field_of above w low
field-before above w r high low =
    let split : high * 2 ^ (r + w) ≡ high * 2 ^ r * 2 ^ w = rw (pow-add 2 r w) (omega arith) in
    ap (λ n. n % 2 ^ w) (down above (r + w) high low ∙ ap (λ n. n + low / 2 ^ above) split) ∙ mul-add-mod_self_right (high * 2 ^ r) (2 ^ w) (low / 2 ^ above)

pub field-below : (above w n : ℕ) → field_of above w n < 2 ^ w
field-below above w n = mod_below (n / 2 ^ above) (2 ^ w) (pow_pos w)

-- the bits with what stands below them
pub mod-split : (above w n : ℕ) → n % 2 ^ (above + w) ≡ field_of above w n * 2 ^ above + n % 2 ^ above
mod-split above w n = subst (λ k. n % 2 ^ k ≡ field_of above w n * 2 ^ above + n % 2 ^ above) (the (w + above ≡ above + w) (omega arith)) (mod-pow-add n w above)
  where
    the : (A : Type 0) → A → A
    the A x = x

-- a number is what stands above some of its bits, these, and what stands below
pub field_split : (above w n : ℕ) → n / 2 ^ (above + w) * 2 ^ (above + w) + (field_of above w n * 2 ^ above + n % 2 ^ above) ≡ n
field_split above w n = ap (λ k. n / 2 ^ (above + w) * 2 ^ (above + w) + k) (sym (mod-split above w n)) ∙ shr_split n (above + w)

-- ---- writing

-- the bits that were written, with what stands below them
pub written-below : (above w v n : ℕ) → v < 2 ^ w → v * 2 ^ above + n % 2 ^ above < 2 ^ (above + w)
written-below above w v n fits =
    let least = mod_below n (2 ^ above) (pow_pos above) in
    let whole : (v + 1) * 2 ^ above ≤ 2 ^ w * 2 ^ above = mul-le (v + 1) (2 ^ above) (2 ^ w) (2 ^ above) (omega (arith, fits)) (omega arith) in
    rw (pow-add 2 above w) (omega (arith, least, whole))

-- what stands above the bits stays
pub with_field-above : (above w v n : ℕ) → v < 2 ^ w → with_field above w v n / 2 ^ (above + w) ≡ n / 2 ^ (above + w)
with_field-above above w v n fits = shr_high (n / 2 ^ (above + w)) (above + w) (v * 2 ^ above + n % 2 ^ above) (written-below above w v n fits)

-- as the same with all above as a multiple of the step
regroup : (above w v n : ℕ) → with_field above w v n ≡ (n / 2 ^ (above + w) * 2 ^ w + v) * 2 ^ above + n % 2 ^ above
regroup above w v n = rw (pow-add 2 above w) (omega arith)

-- what stands below the bits stays
pub with_field-low : (above w v n : ℕ) → with_field above w v n % 2 ^ above ≡ n % 2 ^ above
with_field-low above w v n = ap (λ k. k % 2 ^ above) (regroup above w v n) ∙ mod_low (n / 2 ^ (above + w) * 2 ^ w + v) above (n % 2 ^ above) (mod_below n (2 ^ above) (pow_pos above))

-- the bits are those that were written
pub field-with_field : (above w v n : ℕ) → v < 2 ^ w → field_of above w (with_field above w v n) ≡ v
field-with_field above w v n fits =
    ap (λ k. k / 2 ^ above % 2 ^ w) (regroup above w v n)
    ∙ ap (λ k. k % 2 ^ w) (shr_high (n / 2 ^ (above + w) * 2 ^ w + v) above (n % 2 ^ above) (mod_below n (2 ^ above) (pow_pos above)))
    ∙ mod_low (n / 2 ^ (above + w)) w v fits

-- other bits above them, and below them, are those that were
pub field_above-with_field : (above w v n d w2 : ℕ) → v < 2 ^ w → field_of (above + w + d) w2 (with_field above w v n) ≡ field_of (above + w + d) w2 n
field_above-with_field above w v n d w2 fits =
    ap (λ k. k % 2 ^ w2) (sym (shr-shr (with_field above w v n) (above + w) d) ∙ ap (λ k. k / 2 ^ d) (with_field-above above w v n fits) ∙ shr-shr n (above + w) d)

field_low : (above w2 r n : ℕ) → field_of above w2 n ≡ field_of above w2 (n % 2 ^ (r + w2 + above))
field_low above w2 r n =
    ap (field_of above w2) (sym (shr_split n (r + w2 + above))) ∙ field-before above w2 r (n / 2 ^ (r + w2 + above)) (n % 2 ^ (r + w2 + above))

pub field_below-with_field : (above w v n r w2 : ℕ) → field_of above w2 (with_field (r + w2 + above) w v n) ≡ field_of above w2 n
field_below-with_field above w v n r w2 =
    field_low above w2 r (with_field (r + w2 + above) w v n)
    ∙ ap (field_of above w2) (with_field-low (r + w2 + above) w v n)
    ∙ sym (field_low above w2 r n)

-- bits written above others that stay
pub with_field-after : (above t w v high low : ℕ) → low < 2 ^ t → with_field (t + above) w v (high * 2 ^ t + low) ≡ with_field above w v high * 2 ^ t + low
with_field-after above t w v high low below =
    let n = high * 2 ^ t + low in
    let up : n / 2 ^ (t + above + w) ≡ high / 2 ^ (above + w) =
    ap (λ k. n / 2 ^ k) (omega arith) ∙ sym (shr-shr n t (above + w)) ∙ ap (λ k. k / 2 ^ (above + w)) (shr_high high t low below) in
    let rest : n % 2 ^ (t + above) ≡ high % 2 ^ above * 2 ^ t + low =
    mod-split t above n ∙ ap (λ k. k % 2 ^ above * 2 ^ t + n % 2 ^ t) (shr_high high t low below) ∙ ap (λ k. high % 2 ^ above * 2 ^ t + k) (mod_low high t low below) in
    let power : 2 ^ (t + above + w) ≡ 2 ^ t * 2 ^ (above + w) = ap (λ k. 2 ^ k) (omega arith) ∙ pow-add 2 t (above + w) in
    rw (up, rest, power, pow-add 2 t above) (omega arith)

-- and below others
pub with_field-before : (above w r v high low : ℕ) → with_field above w v (high * 2 ^ (r + (above + w)) + low) ≡ high * 2 ^ (r + (above + w)) + with_field above w v low
with_field-before above w r v high low =
    let up : (high * 2 ^ (r + (above + w)) + low) / 2 ^ (above + w) ≡ high * 2 ^ r + low / 2 ^ (above + w) = down (above + w) r high low in
    let split : high * 2 ^ (r + (above + w)) ≡ high * 2 ^ (r + w) * 2 ^ above = split_at in
    let rest : (high * 2 ^ (r + (above + w)) + low) % 2 ^ above ≡ low % 2 ^ above = rw split (mul-add-mod_self_right (high * 2 ^ (r + w)) (2 ^ above) low) in
    let power : 2 ^ (r + (above + w)) ≡ 2 ^ r * 2 ^ (above + w) = pow-add 2 r (above + w) in
    rw (up, rest, power) (omega arith)
  where
    split_at : high * 2 ^ (r + (above + w)) ≡ high * 2 ^ (r + w) * 2 ^ above
    split_at = let same : 2 ^ (r + (above + w)) ≡ 2 ^ (r + w) * 2 ^ above = ap (λ k. 2 ^ k) (omega arith) ∙ pow-add 2 (r + w) above in rw same (omega arith)

-- the number stays as short as it was
pub with_field-fits : (above w r v n : ℕ) → v < 2 ^ w → n < 2 ^ (r + (above + w)) → with_field above w v n < 2 ^ (r + (above + w))
with_field-fits above w r v n fits short =
    let top : n / 2 ^ (above + w) < 2 ^ r = shr_below n r (above + w) short in
    let low = written-below above w v n fits in
    let whole : (n / 2 ^ (above + w) + 1) * 2 ^ (above + w) ≤ 2 ^ r * 2 ^ (above + w) = mul-le (n / 2 ^ (above + w) + 1) (2 ^ (above + w)) (2 ^ r) (2 ^ (above + w)) (omega (arith, top)) (omega arith) in
    rw (pow-add 2 r (above + w)) (omega (arith, low, whole))

-- ---- as 64 bits are moved

-- the bits as they are masked
pub field_masked : (above w n : ℕ) → w < 64 → bit_and (n / 2 ^ above) (1 * 2 ^ w % 2 ^ 64 - 1) ≡ field_of above w n
field_masked above w n room = ap (λ m. bit_and (n / 2 ^ above) (m - 1)) (one_shl w 64 room) ∙ and_mask (n / 2 ^ above) w

-- taken off, and others put in their place
pub field_moved-le : (above w n : ℕ) → field_of above w n * 2 ^ above ≤ n
field_moved-le above w n = let split = field_split above w n in omega (arith, split)

pub with_field_moved : (above w v n : ℕ) → n - field_of above w n * 2 ^ above + v * 2 ^ above ≡ with_field above w v n
with_field_moved above w v n = let split = field_split above w n in omega (arith, split)
