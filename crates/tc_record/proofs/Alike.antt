-- The laws of numbers that are passed, and of numbers that are the same as others.
use Rattle.std.proofs.Common.{◌≡◌, ◌∙◌, ◌≤◌, ◌<◌, ◌+◌, ◌-◌, ◌*◌, ◌/◌, ◌%◌, ◌^◌, ℕ, zero, suc, min, List, [], ◌∷◌, take, drop, refl, sym, ap, subst, arith}
use Rattle.std.proofs.Math.Pow.{mod-mod-pow}
use Rattle.std.proofs.Math.Seq.{take-add}
use Rattle.std.proofs.lemmas.Nat.{mod-pow-add, shr_high, mod_below, pow_pos}
use Rattle.tc_bits.specs.Bits.{bits_at, field_of, IsAligned}
use Rattle.tc_record.specs.NumbersLeft.{elements_from, IsSeen}

-- ---- numbers that are passed

pub together : (w n p : ℕ) → p ≤ n → w * p + w * (n - p) ≡ w * n
together w n zero few = ap (λ k. w * 0 + w * k) (all n) ∙ omega arith
  where
    all : (n : ℕ) → n - 0 ≡ n
    all n = omega arith
together w zero (suc p) few = absurd (omega (arith, few))
together w (suc n) (suc p) few = ap (λ k. w * suc p + w * k) (less n p) ∙ step w n p (together w n p (omega (arith, few)))
  where
    less : (n p : ℕ) → suc n - suc p ≡ n - p
    less n p = omega arith

    step : (w n p : ℕ) → w * p + w * (n - p) ≡ w * n → w * suc p + w * (n - p) ≡ w * suc n
    step w n p e = omega (arith, e)

pub aligned_on : (w place p : ℕ) → IsAligned w place → IsAligned w (place + w * p)
aligned_on w place zero is whole = omega (arith, is whole)
aligned_on w place (suc p) is whole = omega (arith, aligned_on w place p is whole, whole)

pub numbers_passed : (w place n count : ℕ) (bytes : List ℕ) → elements_from w (place + w * min count n) (n - min count n) bytes ≡ drop count (elements_from w place n bytes)
numbers_passed w place zero count bytes = ap (λ k. elements_from w (place + w * min count 0) k bytes) (none (min count 0)) ∙ nothing count
  where
    none : (k : ℕ) → 0 - k ≡ 0
    none k = omega arith

    nothing : (count : ℕ) → [] ≡ drop {A = ℕ} count []
    nothing zero = refl
    nothing (suc count) = refl
numbers_passed w place (suc n) zero bytes = rw (least n, start place w, all n) refl
  where
    all : (n : ℕ) → suc n - 0 ≡ suc n
    all n = omega arith

    least : (n : ℕ) → min 0 (suc n) ≡ 0
    least n = omega arith

    start : (place w : ℕ) → place + w * 0 ≡ place
    start place w = omega arith
numbers_passed w place (suc n) (suc count) bytes =
    rw (one_less count n, less n (min count n), on place w (min count n)) (numbers_passed w (place + w) n count bytes)
  where
    one_less : (count n : ℕ) → min (suc count) (suc n) ≡ suc (min count n)
    one_less count n = omega arith

    less : (n k : ℕ) → suc n - suc k ≡ n - k
    less n k = omega arith

    on : (place w k : ℕ) → place + w * suc k ≡ place + w + w * k
    on place w k = omega arith

-- ---- numbers that are seen as one

-- a field of the low bits of a number
field_within : (a w r n : ℕ) → field_of a w (n % 2 ^ (r + w + a)) ≡ field_of a w n
field_within a w r n =
    ap (λ k. k / 2 ^ a % 2 ^ w) (mod-pow-add n (r + w) a)
    ∙ ap (λ k. k % 2 ^ w) (shr_high (n / 2 ^ a % 2 ^ (r + w)) a (n % 2 ^ a) (mod_below n (2 ^ a) (pow_pos a)))
    ∙ mod-mod-pow (n / 2 ^ a) r w

-- the low bits of what was looked at
pub low_seen : (number seen n end : ℕ) (bytes : List ℕ) → IsSeen number seen end bytes → n ≤ seen → IsSeen (number % 2 ^ n) n end bytes
low_seen number seen n end bytes all less w place least before near =
    let a = end - (place + w) in
    let r = n - (w + a) in
    let split : n ≡ r + w + a = omega (arith, before, near) in
    ap (λ k. field_of a w (number % 2 ^ k)) split ∙ field_within a w r number ∙ all w place least before (omega (arith, near, less))

fewer_seen : (number w k end : ℕ) (bytes : List ℕ) → IsSeen number (w * suc k) end bytes → IsSeen number (w * k) end bytes
fewer_seen number w k end bytes all v place least before near = all v place least before (omega (arith, near))

-- numbers that are read from one
pub same_seen : (w p q k number : ℕ) (xs ys : List ℕ) → (0 < k → 1 ≤ w) → IsSeen number (w * k) (p + w * k) xs → IsSeen number (w * k) (q + w * k) ys
    → elements_from w p k xs ≡ elements_from w q k ys
same_seen w p q zero number xs ys least mine theirs = refl
same_seen w p q (suc k) number xs ys least mine theirs =
    let some = least (omega arith) in
    let first : bits_at w p xs ≡ bits_at w q ys =
    sym (mine w p some (within p w k) (omega arith)) ∙ ap (λ a. field_of a w number) (before p q w k) ∙ theirs w q some (within q w k) (omega arith) in
    rw first (ap (λ ns. bits_at w q ys ∷ ns) (same_seen w (p + w) (q + w) k number xs ys (λ more. some) (on p xs mine) (on q ys theirs)))
  where
    within : (p w k : ℕ) → p + w ≤ p + w * suc k
    within p w k = omega arith

    before : (p q w k : ℕ) → p + w * suc k - (p + w) ≡ q + w * suc k - (q + w)
    before p q w k = omega arith

    on : (p : ℕ) (xs : List ℕ) → IsSeen number (w * suc k) (p + w * suc k) xs → IsSeen number (w * k) (p + w + w * k) xs
    on p xs seen = subst (λ e. IsSeen number (w * k) e xs) (the_end p w k) (fewer_seen number w k (p + w * suc k) xs seen)
      where
        the_end : (p w k : ℕ) → p + w * suc k ≡ p + w + w * k
        the_end p w k = omega arith

-- ---- so many of numbers

pub elements_taken : (w place n count : ℕ) (bytes : List ℕ) → count ≤ n → take count (elements_from w place n bytes) ≡ elements_from w place count bytes
elements_taken w place n zero bytes few = refl
elements_taken w place zero (suc count) bytes few = absurd (omega (arith, few))
elements_taken w place (suc n) (suc count) bytes few = ap (λ ns. bits_at w place bytes ∷ ns) (elements_taken w (place + w) n count bytes (omega (arith, few)))

-- what is the same up to a place, and behind it
pub same_on : (part todo : ℕ) (ns ms : List ℕ) → part ≤ todo → take part ns ≡ take part ms → take (todo - part) (drop part ns) ≡ take (todo - part) (drop part ms) → take todo ns ≡ take todo ms
same_on part todo ns ms few front behind =
    let whole : todo ≡ part + (todo - part) = omega (arith, few) in
    ap (λ k. take k ns) whole ∙ take-add part (todo - part) ns ∙ rw (front, behind) refl ∙ sym (take-add part (todo - part) ms) ∙ ap (λ k. take k ms) (sym whole)
