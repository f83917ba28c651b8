-- Where a text may be cut: just there is what stands before the cut UTF-8.
use Rattle.std.proofs.Common.{◌≡◌, ◌≤◌, ℕ, nat_lt, Bool, true, false, if◌then◌else◌, List, None, Some, length, take, drop, refl, arith}
use Rattle.std.proofs.lemmas.Bool.{false_from_ne_true}
use Rattle.std.proofs.lemmas.Bool.Decides.{nat_tests}
use Rattle.std.specs.Str.{IsUtf8, IsCharBoundary, is_utf8}
use Rattle.std.proofs.lemmas.Str.{IsUtf8-from_is_utf8, is_utf8-from_IsUtf8, IsUtf8-take, IsCharBoundary-from_take}
use Rattle.tc_bytes.specs.Reading.{bytes_at}
use Rattle.tc_record.specs.Walk.{utf8_at}

within : {A : Type 0} (len n : ℕ) (x : A) → n ≤ len → (if nat_lt len n then None else Some x) ≡ Some x
within len n x inside = grind (arith, nat_tests)

pub utf8_cut : (n : ℕ) (bytes : List ℕ) → IsUtf8 bytes → IsCharBoundary bytes n → utf8_at n bytes ≡ Some (take n bytes, drop n bytes)
utf8_cut n bytes utf8 ends =
    let inside : bytes_at n bytes ≡ Some (take n bytes, drop n bytes) = within {A = List ℕ × List ℕ} (length bytes) n (take n bytes, drop n bytes) ends.0 in
    rw (inside, is_utf8-from_IsUtf8 (take n bytes) (IsUtf8-take bytes n utf8 ends)) refl

pub utf8_uncut : (n : ℕ) (bytes : List ℕ) → IsUtf8 bytes → (IsCharBoundary bytes n → ⊥) → utf8_at n bytes ≡ None
utf8_uncut n bytes utf8 within_one = by_length (nat_lt (length bytes) n) refl
  where
    here : (n : ℕ) (len : ℕ) → nat_lt len n ≡ false → n ≤ len
    here n len fits = grind (arith, nat_tests)

    by_length : (short : Bool) → nat_lt (length bytes) n ≡ short → utf8_at n bytes ≡ None
    by_length true is = rw is refl
    by_length false is =
        let none : is_utf8 (take n bytes) ≡ false = false_from_ne_true (is_utf8 (take n bytes)) (λ e. within_one (IsCharBoundary-from_take bytes n utf8 (here n (length bytes) is) (IsUtf8-from_is_utf8 (take n bytes) e))) in
        rw (is, none) refl
