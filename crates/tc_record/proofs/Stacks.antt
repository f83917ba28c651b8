-- The levels that are open, in the array that holds them.
use Rattle.std.proofs.Common.{◌≡◌, ◌≢◌, ◌<◌, ◌≤◌, ◌+◌, ◌-◌, ◌*◌, ◌/◌, ◌^◌, ◌==◌, ℕ, zero, suc, Bool, true, false, nat_lt, if◌then◌else◌, refl, ap, subst, List, ◌∷◌, length, get_or, set, None, Some, arith, add-one}
use Rattle.std.specs.Int.{from_bool}
use Rattle.std.proofs.Math.Nat.{pow-le-pow_right}
use Rattle.std.proofs.lemmas.Bool.Decides.{nat_tests}
use Rattle.std.proofs.lemmas.List.{get_or-set_same, get_or-set_other}
use Rattle.tc_record.specs.Walk as walk
use Rattle.tc_record.specs.WalkView.{level_of}
use Rattle.tc_record.specs.Stack.{stack_of, is_array, kind_of, kinds_of}
use Rattle.tc_record.specs.declared.reader.Level.{Level}
use Rattle.tc_record.specs.declared.reader.Level.TheVariants as level

pub length-stack_of : (ls : List Level) (n : ℕ) → length (stack_of ls n) ≡ n
length-stack_of ls zero = refl
length-stack_of ls (suc n) = ap suc (length-stack_of ls n)

-- levels beyond do not matter
stack_of-set : (ls : List Level) (k n : ℕ) (x : Level) → n ≤ k → stack_of (set ls k x) n ≡ stack_of ls n
stack_of-set ls k zero x beyond = refl
stack_of-set ls k (suc n) x beyond =
    rw (get_or-set_other ls k n x level.Array (λ same. omega arith), stack_of-set ls k n x (omega arith)) refl

-- the innermost level, set anew
pub stack_of-top : (ls : List Level) (k : ℕ) (x : Level) → k < length ls → stack_of (set ls k x) (suc k) ≡ level_of x ∷ stack_of ls k
stack_of-top ls k x inside = rw (get_or-set_same ls k x level.Array inside, stack_of-set ls k k x (omega arith)) refl

fits : (n : ℕ) (levels : List walk.Level) → n < 32 → Some levels ≡ (if nat_lt n 32 then Some levels else None)
fits n levels few = grind (arith, nat_tests)

-- one level more
pub pushed : (ls : List Level) (n : ℕ) (x : Level) → n < length ls → n < 32
    → Some (stack_of (set ls n x) (n + 1)) ≡ (if nat_lt (length (stack_of ls n)) 32 then Some (level_of x ∷ stack_of ls n) else None)
pushed ls n x inside few = rw (add-one n, stack_of-top ls n x inside, length-stack_of ls n) (fits n (level_of x ∷ stack_of ls n) few)

-- a level that is read
pub stack_of-read : (ls : List Level) (n : ℕ) → 0 < n → stack_of ls n ≡ level_of (get_or ls (n - 1) level.Array) ∷ stack_of ls (n - 1)
stack_of-read ls zero some = absurd (omega arith)
stack_of-read ls (suc n) some = let same : suc n - 1 ≡ n = omega arith in rw same refl

-- the level that a value stands in, set anew
pub stack_of-behind : (ls : List Level) (n : ℕ) (x : Level) → 0 < n → n ≤ length ls → stack_of (set ls (n - 1) x) n ≡ level_of x ∷ stack_of ls (n - 1)
stack_of-behind ls zero x some inside = absurd (omega arith)
stack_of-behind ls (suc n) x some inside =
    let same : n ≡ suc n - 1 = omega arith in
    let P : ℕ → Type 0 = λ k. stack_of (set ls k x) (suc n) ≡ level_of x ∷ stack_of ls k in
    subst P same (stack_of-top ls n x (omega arith))

-- ---- levels by the bits that tell which are arrays

pub length-kinds_of : (a n : ℕ) → length (kinds_of a n) ≡ n
length-kinds_of a zero = refl
length-kinds_of a (suc n) = ap suc (length-kinds_of (a / 2) n)

pub kinds_of-read : (a n : ℕ) → 0 < n → kinds_of a n ≡ kind_of (is_array a) ∷ kinds_of (a / 2) (n - 1)
kinds_of-read a zero some = absurd (omega arith)
kinds_of-read a (suc n) some = let same : suc n - 1 ≡ n = omega arith in rw same refl

lowest_bit : (a : ℕ) (b : Bool) → is_array (a * 2 + from_bool b) ≡ b
lowest_bit a true = grind (arith, nat_tests)
lowest_bit a false = grind (arith, nat_tests)

other_bits : (a : ℕ) (b : Bool) → (a * 2 + from_bool b) / 2 ≡ a
other_bits a true = omega arith
other_bits a false = omega arith

pub bit-le : (b : Bool) → from_bool b ≤ 1
bit-le true = omega arith
bit-le false = omega arith

-- one level more
pub kinds_of-pushed : (a n bit : ℕ) (b : Bool) → bit ≡ from_bool b → n < 32
    → Some (kinds_of (a * 2 + bit) (n + 1)) ≡ (if nat_lt (length (kinds_of a n)) 32 then Some (kind_of b ∷ kinds_of a n) else None)
kinds_of-pushed a n bit b same few = rw (same, add-one n, lowest_bit a b, other_bits a b, length-kinds_of a n) (fits n (kind_of b ∷ kinds_of a n) few)

-- no bit stands above the levels
pub bits_few : (a n : ℕ) → a < 2 ^ n → n < 32 → a < 2 ^ 31
bits_few a n few shallow =
    let within : n ≤ 31 = omega (arith, shallow) in
    let more : 2 ^ n ≤ 2 ^ 31 = pow-le-pow_right (omega arith) within in omega (arith, few, more)

-- a tag that does not close
pub not_close : (tag : ℕ) → tag ≢ 7 → (tag == 7) ≡ false
not_close tag goes = grind (arith, nat_tests)
