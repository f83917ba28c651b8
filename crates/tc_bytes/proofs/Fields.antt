-- The laws of single fields: numbers and bytes are read from their spelling alone.
use Rattle.std.proofs.Common.{Fits, w8, get_or, ◌≡◌, ◌<◌, ◌≤◌, ◌^◌, ◌+◌, ℕ, zero, suc, List, [], ◌∷◌, ◌++◌, Some, length, take, drop, refl, sym, ap, ◌∙◌, subst, arith, length-append}
use Rattle.std.specs.Int.{Width, w32, w64, byte_len, from_be_bytes, to_be_bytes}
use Rattle.std.proofs.lemmas.Bool.{le-ltb}
use Rattle.std.proofs.lemmas.Bool.Decides.{nat_tests}
use Rattle.std.proofs.lemmas.List.{take-append-drop, length-take-le, get_or-drop, take_at, drop_at}
use Rattle.std.proofs.lemmas.Nat.{be_bytes_4, be_bytes_8, from_be_bytes-to_be_bytes_4, from_be_bytes-to_be_bytes_8}
use Rattle.std.proofs.lemmas.Option.{some_pair_parts}
use Rattle.tc_bytes.specs.Reading.{byte_at, number_at, bytes_at}
use Rattle.tc_bytes.specs.Codec.{IsBytes, IsCodec}

pub IsBytes-drop : (n : ℕ) (bytes : List ℕ) → IsBytes bytes → IsBytes (drop n bytes)
IsBytes-drop n bytes each i = rw (get_or-drop n bytes i 0) (each (n + i))

-- what the type of a slice of bytes says of it
pub IsBytes-from_type : (bytes : List ℕ) → ((i : ℕ) → Fits w8 (get_or bytes i 0)) → IsBytes bytes
IsBytes-from_type bytes each i = omega (arith, each i)

pub IsBytes-take : (n : ℕ) (bytes : List ℕ) → IsBytes bytes → IsBytes (take n bytes)
IsBytes-take zero bytes each i = omega arith
IsBytes-take (suc n) [] each i = omega arith
IsBytes-take (suc n) (b ∷ bytes) each zero = each 0
IsBytes-take (suc n) (b ∷ bytes) each (suc i) = IsBytes-take n bytes (λ j. each (suc j)) i

pub IsBytes-front : (front rest : List ℕ) → IsBytes (front ++ rest) → IsBytes front
IsBytes-front front rest each = subst IsBytes (take_at front rest (length front) refl) (IsBytes-take (length front) (front ++ rest) each)

-- ---- numbers

number_below_32 : (bytes : List ℕ) → IsBytes bytes → from_be_bytes w32 bytes < 2 ^ 32
number_below_32 bytes each =
    let a = each 0 in let b = each 1 in let c = each 2 in let d = each 3 in omega arith

number_below_64 : (bytes : List ℕ) → IsBytes bytes → from_be_bytes w64 bytes < 2 ^ 64
number_below_64 bytes each =
    let a = each 0 in let b = each 1 in let c = each 2 in let d = each 3 in
    let e = each 4 in let f = each 5 in let g = each 6 in let h = each 7 in omega arith

-- where n bytes are read, they stand there
bytes_parts : (n : ℕ) (bytes front rest : List ℕ) → bytes_at n bytes ≡ Some (front, rest) → (n ≤ length bytes) × (front ≡ take n bytes) × (rest ≡ drop n bytes)
bytes_parts n bytes front rest read = grind (arith, nat_tests)

pub bytes_again : (n : ℕ) (front rest : List ℕ) → length front ≡ n → bytes_at n (front ++ rest) ≡ Some (front, rest)
bytes_again n front rest same =
    let long : n ≤ length (front ++ rest) = omega (arith, length-append front rest) in
    rw (le-ltb (length (front ++ rest)) n long, take_at front rest n same, drop_at front rest n same) refl

pub number_parts : (w : Width) (bytes : List ℕ) (x : ℕ) (rest : List ℕ) → number_at w bytes ≡ Some (x, rest) → (byte_len w ≤ length bytes) × (x ≡ from_be_bytes w (take (byte_len w) bytes)) × (rest ≡ drop (byte_len w) bytes)
number_parts w bytes x rest read = grind (arith, nat_tests)

pub number_again : (w : Width) (front rest : List ℕ) → length front ≡ byte_len w → number_at w (front ++ rest) ≡ Some (from_be_bytes w front, rest)
number_again w front rest same =
    let long : byte_len w ≤ length (front ++ rest) = omega (arith, length-append front rest) in
    rw (le-ltb (length (front ++ rest)) (byte_len w) long, take_at front rest (byte_len w) same, drop_at front rest (byte_len w) same) refl

pub number_found : (w : Width) (bytes : List ℕ) (x : ℕ) (rest : List ℕ) (limit : ℕ)
    → (spelled : (front : List ℕ) → length front ≡ byte_len w → IsBytes front → to_be_bytes w (from_be_bytes w front) ≡ front)
    → (below : (front : List ℕ) → IsBytes front → from_be_bytes w front < limit)
    → IsBytes bytes → number_at w bytes ≡ Some (x, rest) → (bytes ≡ to_be_bytes w x ++ rest) × IsBytes rest × (x < limit)
number_found w bytes x rest limit spelled below each read =
    let parts = number_parts w bytes x rest read in
    let front = IsBytes-take (byte_len w) bytes each in
    let same = spelled (take (byte_len w) bytes) (length-take-le (byte_len w) bytes parts.0) front in
    let whole : bytes ≡ to_be_bytes w x ++ rest = rw (parts.1, parts.2, same) (sym (take-append-drop (byte_len w) bytes)) in
    let least : x < limit = rw parts.1 (below (take (byte_len w) bytes) front) in
    (whole, subst IsBytes (sym parts.2) (IsBytes-drop (byte_len w) bytes each), least)

-- a big-endian number of four bytes, and one of eight
pub number_codec_32 : IsCodec (number_at w32) (to_be_bytes w32) (λ n. n < 2 ^ 32)
number_codec_32 = record {
  found = λ bytes x rest each read. number_found w32 bytes x rest (2 ^ 32) (λ front long all. be_bytes_4 front (from_be_bytes w32 front) long all refl) number_below_32 each read;
  again = λ n rest fits. rw (number_again w32 (to_be_bytes w32 n) rest refl, from_be_bytes-to_be_bytes_4 n fits) refl;
}

pub number_codec_64 : IsCodec (number_at w64) (to_be_bytes w64) (λ n. n < 2 ^ 64)
number_codec_64 = record {
  found = λ bytes x rest each read. number_found w64 bytes x rest (2 ^ 64) (λ front long all. be_bytes_8 front (from_be_bytes w64 front) long all refl) number_below_64 each read;
  again = λ n rest fits. rw (number_again w64 (to_be_bytes w64 n) rest refl, from_be_bytes-to_be_bytes_8 n fits) refl;
}

-- ---- bytes

pub byte_codec : IsCodec byte_at (λ b. b ∷ []) (λ b. b < 256)
byte_codec = record { found = byte_found; again = λ b rest fits. refl }
  where
    byte_found : (bytes : List ℕ) (b : ℕ) (rest : List ℕ) → IsBytes bytes → byte_at bytes ≡ Some (b, rest) → (bytes ≡ (b ∷ []) ++ rest) × IsBytes rest × (b < 256)
    byte_found [] b rest each read = cc
    byte_found (c ∷ bytes) b rest each read =
        let same = some_pair_parts c b bytes rest read in
        (rw (same.0, same.1) refl, subst IsBytes same.1 (λ i. each (suc i)), rw (← same.0) (each 0))

-- so many bytes
pub bytes_codec : (n : ℕ) → IsCodec (bytes_at n) (λ bytes. bytes) (λ bytes. length bytes ≡ n)
bytes_codec n = record {
  found = λ bytes front rest each read.
      let parts = bytes_parts n bytes front rest read in (
        rw (parts.1, parts.2) (sym (take-append-drop n bytes)),
        subst IsBytes (sym parts.2) (IsBytes-drop n bytes each),
        ap length parts.1 ∙ length-take-le n bytes parts.0,
      );
  again = λ front rest fits. bytes_again n front rest fits;
}
