-- The laws of numbers that are read from a place in bytes on.
use Rattle.std.proofs.Common.{◌≡◌, ◌∙◌, ◌≤◌, ◌+◌, ◌-◌, ◌*◌, ℕ, zero, suc, true, List, ◌∷◌, ◌++◌, None, Some, length, map, refl, sym, ap, arith, length-append}
use Rattle.std.specs.List.{range_with_len}
use Rattle.tc_bits.specs.Bits.{column_size, bits_at, elements, is_column}
use Rattle.tc_bits.proofs.Codec.{size_room}
use Rattle.tc_bits.proofs.Elements.{column_judged}
use Rattle.tc_bits.proofs.Places.{bits_in_front, bits_after_bytes}
use Rattle.tc_bits.proofs.Values.{AreBytes}
use Rattle.tc_bytes.specs.Codec.{IsBytes}
use Rattle.tc_bytes.specs.Reading.{bytes_at}
use Rattle.tc_bytes.proofs.Fields.{bytes_codec}
use Rattle.tc_record.specs.NumbersLeft.{elements_from}
use Rattle.tc_record.specs.Record.{greatest, Spelling, width_in}
use Rattle.tc_record.specs.Sections.{IsTail, least_width, numbers_at}
use Rattle.tc_record.proofs.NumberColumns.{as_bytes, numbers_there, numbers_wide, width_told}

-- so many are left
pub length-elements_from : (w place left : ℕ) (bytes : List ℕ) → length (elements_from w place left bytes) ≡ left
length-elements_from w place zero bytes = refl
length-elements_from w place (suc n) bytes = ap suc (length-elements_from w (place + w) n bytes)

room_left : (w p n k : ℕ) → p + w * suc n ≤ k → (p + w ≤ k) × (p + w + w * n ≤ k)
room_left w p n k room = let spread : w * suc n ≡ w + w * n = omega arith in (omega (arith, room, spread), omega (arith, room, spread))

-- the elements of a column do not depend on what stands around it
elements_within : (w p n : ℕ) (front column rest : List ℕ) → AreBytes rest → p + w * n ≤ 8 * length column
    → elements_from w (8 * length front + p) n (front ++ (column ++ rest)) ≡ elements_from w p n column
elements_within w p zero front column rest each room = refl
elements_within w p (suc n) front column rest each room =
    let left = room_left w p n (8 * length column) room in
    let whole = front ++ (column ++ rest) in
    let first : bits_at w (8 * length front + p) whole ≡ bits_at w p column =
    bits_after_bytes w p front (column ++ rest) (omega (arith, left.0, length-append column rest)) ∙ bits_in_front w p column rest each left.0 in
    let place : 8 * length front + p + w ≡ 8 * length front + (p + w) = omega arith in
    ap (λ x. x ∷ elements_from w (8 * length front + p + w) n whole) first
    ∙ ap (λ k. bits_at w p column ∷ elements_from w k n whole) place
    ∙ ap (λ xs. bits_at w p column ∷ xs) (elements_within w (p + w) n front column rest each left.1)

counted_from : (w a n : ℕ) (column : List ℕ) → elements_from w (w * a) n column ≡ map (λ i. bits_at w (w * i) column) (range_with_len a n)
counted_from w a zero column = refl
counted_from w a (suc n) column =
    let next : w * a + w ≡ w * (a + 1) = omega arith in
    ap (λ xs. bits_at w (w * a) column ∷ xs) (ap (λ p. elements_from w p n column) next ∙ counted_from w (a + 1) n column)

-- a column, where it stands in other bytes
elements_placed : (w n place : ℕ) (whole front column rest : List ℕ) → AreBytes rest → w * n ≤ 8 * length column → whole ≡ front ++ (column ++ rest) → place ≡ 8 * length front → elements_from w place n whole ≡ elements w n column
elements_placed w n place whole front column rest each room is at =
    let start : place ≡ 8 * length front + 0 = at ∙ omega arith in
    let nothing : 0 ≡ w * 0 = omega arith in
    ap (λ p. elements_from w p n whole) start
    ∙ ap (elements_from w (8 * length front + 0) n) is
    ∙ elements_within w 0 n front column rest each (omega (arith, room))
    ∙ ap (λ p. elements_from w p n column) nothing
    ∙ counted_from w 0 n column

-- the least width for so many numbers is that of a column of them
pub least_is : (s : Spelling) (w place count : ℕ) (whole : List ℕ) (g least : ℕ) → g ≡ greatest (elements_from w place count whole) → least ≡ least_width s count g → least ≡ width_in s (elements_from w place count whole)
least_is s w place count whole g least most told = width_told s (elements_from w place count whole) count g least (length-elements_from w place count whole) (sym most) told

-- ---- a column that was cut from what ends a record: its numbers are read where it stands, if the width that is told is the least

elements_there : (s : Spelling) (whole bytes column rest : List ℕ) (told count w : ℕ) → IsBytes bytes → IsTail whole bytes → w ≡ s.bits told → bytes_at (column_size count w) bytes ≡ Some (column, rest) → is_column w count column ≡ true
    → elements_from w (8 * (length whole - length bytes)) count whole ≡ elements (s.bits told) count column
elements_there s whole bytes column rest told count w each tail same read is =
    let cut = (bytes_codec (column_size count w)).found bytes column rest each read in
    let len : length whole ≡ length tail.front + length bytes = ap length tail.ends ∙ length-append tail.front bytes in
    let at : length whole - length bytes ≡ length tail.front = omega (arith, len) in
    let turned : w * count ≡ count * w = omega arith in
    let bits : w * count ≤ 8 * length column = let whole_bits = size_room count w in let sized = (column_judged w count column is).sized in omega (arith, turned, whole_bits, sized) in
    elements_placed w count (8 * (length whole - length bytes)) whole tail.front column rest (as_bytes rest cut.1) bits (tail.ends ∙ ap (λ r. tail.front ++ r) cut.0) (ap (λ n. 8 * n) at)
    ∙ ap (λ k. elements k count column) same

pub column_read : (s : Spelling) (whole bytes column rest : List ℕ) (told count w : ℕ) → IsBytes bytes → IsTail whole bytes → w ≡ s.bits told → bytes_at (column_size count w) bytes ≡ Some (column, rest) → is_column w count column ≡ true
    → told ≡ width_in s (elements_from w (8 * (length whole - length bytes)) count whole) → numbers_at s told count bytes ≡ Some (elements_from w (8 * (length whole - length bytes)) count whole, rest)
column_read s whole bytes column rest told count w each tail same cut is least =
    let there = elements_there s whole bytes column rest told count w each tail same cut is in
    numbers_there s told count bytes column rest (ap (λ k. bytes_at (column_size count k) bytes) (sym same) ∙ cut) (ap (λ k. is_column k count column) (sym same) ∙ is) (least ∙ ap (width_in s) there)
    ∙ ap (λ ns. Some (ns, rest)) (sym there)

pub column_wide : (s : Spelling) (whole bytes column rest : List ℕ) (told count w : ℕ) → IsBytes bytes → IsTail whole bytes → w ≡ s.bits told → bytes_at (column_size count w) bytes ≡ Some (column, rest) → is_column w count column ≡ true
    → (told ≡ width_in s (elements_from w (8 * (length whole - length bytes)) count whole) → ⊥) → numbers_at s told count bytes ≡ None
column_wide s whole bytes column rest told count w each tail same cut is other =
    let there = elements_there s whole bytes column rest told count w each tail same cut is in
    numbers_wide s told count bytes column rest (ap (λ k. bytes_at (column_size count k) bytes) (sym same) ∙ cut) (ap (λ k. is_column k count column) (sym same) ∙ is) (λ e. other (e ∙ ap (width_in s) (sym there)))
