-- What ends a record behind its header, and what is left of it once something more was cut.
use Rattle.std.proofs.Common.{◌≡◌, ◌∙◌, ◌≤◌, ◌<◌, ◌+◌, ◌^◌, ℕ, nat_lt, Bool, true, false, if◌then◌else◌, List, [], ◌++◌, Option, None, Some, length, take, drop, refl, sym, ap, subst, arith, append_assoc, length-append}
use Rattle.std.specs.List.{sum}
use Rattle.std.proofs.lemmas.Bool.Decides.{nat_tests}
use Rattle.std.proofs.lemmas.List.{drop_at, length-take-le}
use Rattle.std.proofs.lemmas.Option.{same_Some}
use Rattle.tc_bits.specs.Bits.{column_size}
use Rattle.tc_bytes.specs.Reading.{bytes_at}
use Rattle.tc_bytes.specs.Codec.{IsBytes}
use Rattle.tc_bytes.proofs.Codecs.{then_parts}
use Rattle.tc_bytes.proofs.Fields.{IsBytes-drop, bytes_codec}
use Rattle.tc_record.specs.Record.{Spelling}
use Rattle.tc_record.specs.Sections.{Header, header_at, IsTail, capped_sum, numbers_spelled, numbers_at}
use Rattle.tc_record.proofs.Cutting.{spelled_header, header_found}

pub tail_of_header : (bytes : List ℕ) (h : Header) (rest : List ℕ) → IsBytes bytes → header_at bytes ≡ Some (h, rest) → IsTail bytes rest
tail_of_header bytes h rest each read =
    let found = header_found bytes (h, rest) each read in
    record { front = spelled_header h []; ends = found.spelled; headed = omega arith }

cut_tail : (whole bytes taken rest : List ℕ) → IsTail whole bytes → bytes ≡ taken ++ rest → IsTail whole rest
cut_tail whole bytes taken rest tail is = record {
  front = tail.front ++ taken;
  ends = tail.ends ∙ ap (λ r. tail.front ++ r) is ∙ sym (append_assoc tail.front taken rest);
  headed = let headed = tail.headed in omega (arith, headed, length-append tail.front taken);
}

tail_bytes : (whole left : List ℕ) → IsBytes whole → IsTail whole left → IsBytes left
tail_bytes whole left each tail = subst IsBytes (drop_at tail.front left (length tail.front) refl) (IsBytes-drop (length tail.front) (tail.front ++ left) (subst IsBytes tail.ends each))

pub tail_behind : (n : ℕ) (whole bytes taken rest : List ℕ) → IsBytes whole → IsTail whole bytes → bytes_at n bytes ≡ Some (taken, rest) → IsTail whole rest
tail_behind n whole bytes taken rest each tail read = cut_tail whole bytes taken rest tail ((bytes_codec n).found bytes taken rest (tail_bytes whole bytes each tail) read).0

pub tail_behind_numbers : (s : Spelling) (told count : ℕ) (whole bytes ns rest : List ℕ) → IsBytes whole → IsTail whole bytes → numbers_at s told count bytes ≡ Some (ns, rest) → IsTail whole rest
tail_behind_numbers s told count whole bytes ns rest each tail read =
    let size = column_size count (s.bits told) in
    let one = then_parts (bytes_at size bytes) _ (ns, rest) read in
    let two = then_parts (numbers_spelled s told count one.0.0) _ (ns, rest) one.2 in
    let left : one.0.1 ≡ rest = ap (λ (q : List ℕ × List ℕ). q.1) (same_Some _ (ns, rest) two.2) in
    tail_behind size whole bytes one.0.0 rest each tail (one.1 ∙ ap (λ r. Some (one.0.0, r)) left)

-- bytes of a tail that are as many as numbers say are fewer than the sum may be that stands still
pub texts_add_up : (whole rest texts behind ns : List ℕ) (total : ℕ) → length whole < 2 ^ 32 → IsTail whole rest → bytes_at total rest ≡ Some (texts, behind) → total ≡ capped_sum ns → sum ns ≡ length texts
texts_add_up whole rest texts behind ns total few tail read capped = by_length (nat_lt (length rest) total) refl read
  where
    fits : (len n : ℕ) → nat_lt len n ≡ false → n ≤ len
    fits len n is = grind (arith, nat_tests)

    parts : Option (List ℕ × List ℕ)
    parts = Some (take total rest, drop total rest)

    by_length : (short : Bool) → nat_lt (length rest) total ≡ short → (if short then None else parts) ≡ Some (texts, behind) → sum ns ≡ length texts
    by_length true is e = cc
    by_length false is e =
        let within : total ≤ length rest = fits (length rest) total is in
        let taken : take total rest ≡ texts = ap (λ (x : List ℕ × List ℕ). x.0) (same_Some (take total rest, drop total rest) (texts, behind) e) in
        let long : length texts ≡ total = ap length (sym taken) ∙ length-take-le total rest within in
        let all : length whole ≡ length tail.front + length rest = ap length tail.ends ∙ length-append tail.front rest in
        let headed = tail.headed in
        omega (arith, few, capped, long, all, headed, within)
