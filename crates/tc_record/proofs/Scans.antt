-- The laws of numbers that are read from the last one to the first.
use Rattle.std.proofs.Common.{◌≡◌, ◌∙◌, ◌≤◌, ◌<◌, ◌+◌, ◌-◌, ◌*◌, ◌/◌, ◌%◌, ◌^◌, ℕ, zero, suc, max, min, List, [], ◌∷◌, ◌++◌, refl, ap, arith}
use Rattle.std.specs.List.{sum}
use Rattle.std.proofs.lemmas.List.Sums.{sum_by-append}
use Rattle.std.proofs.lemmas.Nat.{shr-shr}
use Rattle.tc_bits.specs.Bits.{bits_at, field_of, IsWindow}
use Rattle.tc_record.specs.NumbersLeft.{elements_from, IsSeen}
use Rattle.tc_record.specs.Record.{greatest}

-- ---- the last of numbers

last_after : (w place n : ℕ) (bytes : List ℕ) → elements_from w place (suc n) bytes ≡ elements_from w place n bytes ++ (bits_at w (place + w * n) bytes ∷ [])
last_after w place zero bytes = ap (λ p. bits_at w p bytes ∷ []) (start place w)
  where
    start : (place w : ℕ) → place ≡ place + w * 0
    start place w = omega arith
last_after w place (suc n) bytes =
    ap (λ ns. bits_at w place bytes ∷ ns) (last_after w (place + w) n bytes)
    ∙ ap (λ p. bits_at w place bytes ∷ (elements_from w (place + w) n bytes ++ (bits_at w p bytes ∷ []))) (next place w n)
  where
    next : (place w n : ℕ) → place + w + w * n ≡ place + w * suc n
    next place w n = omega arith

-- where the numbers before the last one end
pub end_before : (w place n : ℕ) → 0 < n → place + w * (n - 1) ≡ place + w * n - w
end_before w place zero some = absurd (omega (arith, some))
end_before w place (suc n) some = ap (λ k. place + w * k) (back n) ∙ spread place w n
  where
    back : (n : ℕ) → suc n - 1 ≡ n
    back n = omega arith

    spread : (place w n : ℕ) → place + w * n ≡ place + w * suc n - w
    spread place w n = omega arith

pub last_of : (w place n : ℕ) (bytes : List ℕ) → 0 < n → elements_from w place n bytes ≡ elements_from w place (n - 1) bytes ++ (bits_at w (place + w * n - w) bytes ∷ [])
last_of w place n bytes some =
    ap (λ k. elements_from w place k bytes) (back n some)
    ∙ last_after w place (n - 1) bytes
    ∙ ap (λ p. elements_from w place (n - 1) bytes ++ (bits_at w p bytes ∷ [])) (end_before w place n some)
  where
    back : (n : ℕ) → 0 < n → n ≡ suc (n - 1)
    back n some = omega (arith, some)

pub greatest_last : (ns : List ℕ) (n : ℕ) → greatest (ns ++ (n ∷ [])) ≡ max n (greatest ns)
greatest_last [] n = refl
greatest_last (m ∷ ns) n = ap (max m) (greatest_last ns n) ∙ omega arith

pub sum_last : (ns : List ℕ) (n : ℕ) → sum (ns ++ (n ∷ [])) ≡ sum ns + n
sum_last ns n = sum_by-append (λ m. m) ns (n ∷ []) ∙ omega arith

-- with no number left, what was added up is all
pub sum_end : (t : ℕ) (ns : List ℕ) → t < 2 ^ 32 → ns ≡ [] → min (t + sum ns) (2 ^ 32 - 1) ≡ t
sum_end t ns small none = rw none (omega (arith, small))

-- ---- what was looked at

-- the bits below are moved out
moved : (number v a w : ℕ) → field_of a w (number / 2 ^ v) ≡ field_of (v + a) w number
moved number v a w = ap (λ n. n % 2 ^ w) (shr-shr number v a)

-- by one look at the eight bytes that have the last bit
pub looked_back : (number end : ℕ) (bytes : List ℕ) → 64 ≤ end → IsWindow ((end + 7) / 8) number bytes
    → IsSeen (number / 2 ^ (8 * ((end + 7) / 8) - end)) (64 - (8 * ((end + 7) / 8) - end)) end bytes
looked_back number end bytes long window w place least before near =
    let whole = (end + 7) / 8 in
    let filling = 8 * whole - end in
    moved number filling (end - (place + w)) w
    ∙ ap (λ a. field_of a w number) (the_sum whole before (omega arith))
    ∙ window w place (omega (arith, near)) (omega (arith, before))
  where
    the_sum : (whole : ℕ) → place + w ≤ end → end ≤ 8 * whole → 8 * whole - end + (end - (place + w)) ≡ 8 * whole - (place + w)
    the_sum whole before more = omega (arith, before, more)

-- one of several widths
pub one_width : (w n : ℕ) → 0 < n → (w ≤ w * n) × (w * n - w ≡ w * (n - 1))
one_width w zero some = absurd (omega (arith, some))
one_width w (suc n) some = (first w n, rest w n ∙ ap (λ k. w * k) (back n))
  where
    first : (w n : ℕ) → w ≤ w * suc n
    first w n = omega arith

    rest : (w n : ℕ) → w * suc n - w ≡ w * n
    rest w n = omega arith

    back : (n : ℕ) → n ≡ suc n - 1
    back n = omega arith

-- all that is left once the last number was read
pub seen_on : (number seen end v : ℕ) (bytes : List ℕ) → IsSeen number seen end bytes → v ≤ seen → IsSeen (number / 2 ^ v) (seen - v) (end - v) bytes
seen_on number seen end v bytes all some w place least before near =
    moved number v (end - v - (place + w)) w
    ∙ ap (λ a. field_of a w number) (omega (arith, least, before))
    ∙ all w place least (omega (arith, before)) (omega (arith, least, before, near, some))

-- the last number
pub lowest_seen : (number seen end w : ℕ) (bytes : List ℕ) → IsSeen number seen end bytes → 1 ≤ w → w ≤ seen → w ≤ end → field_of 0 w number ≡ bits_at w (end - w) bytes
lowest_seen number seen end w bytes all least some within =
    ap (λ a. field_of a w number) (nothing within)
    ∙ all w (end - w) least (omega (arith, within)) (omega (arith, within, some))
  where
    nothing : w ≤ end → 0 ≡ end - (end - w + w)
    nothing within = omega (arith, within)
