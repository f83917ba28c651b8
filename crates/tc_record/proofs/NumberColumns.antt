-- The laws of columns of numbers: what is read is spelled so, and what is spelled is read, whatever follows.
use Rattle.std.proofs.Common.{◌≡◌, ◌∙◌, ◌<◌, ◌+◌, ◌^◌, ◌==◌, ◌&&◌, ℕ, suc, nat_le, true, false, if◌then◌else◌, List, [], ◌∷◌, ◌++◌, Option, None, Some, length, map, refl, sym, ap, subst, arith, length-append}
use Rattle.std.specs.List.{sum}
use Rattle.std.proofs.lemmas.Bool.{and_parts, eqb-true}
use Rattle.std.proofs.lemmas.Bool.Decides.{nat_tests}
use Rattle.std.proofs.lemmas.List.Sums.{sum_by-cons}
use Rattle.std.proofs.lemmas.Option.{same_Some}
use Rattle.tc_bits.specs.Bits.{column_size, elements, is_column, IsColumn}
use Rattle.tc_bits.proofs.Codec.{length-column, column_is, elements_spell}
use Rattle.tc_bits.proofs.Elements.{length-elements}
use Rattle.tc_bits.proofs.Joined.{AreBelow}
use Rattle.tc_bits.proofs.Values.{AreBytes}
use Rattle.tc_bytes.specs.Codec.{IsBytes}
use Rattle.tc_bytes.specs.Reading.{bytes_at}
use Rattle.tc_bytes.proofs.Codecs.{then_parts}
use Rattle.tc_bytes.proofs.Fields.{IsBytes-front, bytes_codec, bytes_again}
use Rattle.tc_record.specs.Record.{greatest, Spelling, width_in, joined}
use Rattle.tc_record.specs.Sections.{least_width, numbers_spelled, numbers_at, capped_sum}
use Rattle.tc_record.proofs.Labels.{if_parts}
use Rattle.tc_record.proofs.Spellings.{IsSpelling, column_spelled, wider}

pub same_test : {A : Type 0} (a b : ℕ) (x y : A) → a ≡ b → (if a == b then x else y) ≡ x
same_test a b x y e = grind (arith, nat_tests)

-- the bytes of a slice, as columns of bits see them
pub as_bytes : (bytes : List ℕ) → IsBytes bytes → AreBytes bytes
as_bytes bytes each i = each i

-- ---- what is spelled is read

column_again : (s : Spelling) (ns bytes : List ℕ) → IsColumn (s.bits (width_in s ns)) ns bytes → numbers_spelled s (width_in s ns) (length ns) bytes ≡ Some ns
column_again s ns bytes here =
    let w = width_in s ns in
    let b = s.bits w in
    let read = column_is b (length ns) ns bytes refl here in
    ap (λ t. if t && (w == width_in s (elements b (length ns) bytes)) then Some (elements b (length ns) bytes) else None) read.0
    ∙ ap (λ es. if w == width_in s es then Some es else None) read.1
    ∙ same_test w w (Some ns) None refl

pub numbers_again : (s : Spelling) → IsSpelling s → (ns rest : List ℕ) → AreBelow 32 ns → numbers_at s (width_in s ns) (length ns) (s.column (width_in s ns) ns ++ rest) ≡ Some (ns, rest)
numbers_again s is ns rest each =
    let b = s.bits (width_in s ns) in
    let bytes = s.column (width_in s ns) ns in
    let here = column_spelled s is ns each in
    let long : length bytes ≡ column_size (length ns) b = ap length here.spelled ∙ length-column b ns in
    rw (bytes_again (column_size (length ns) b) bytes rest long, column_again s ns bytes here) refl

-- ---- what is read is spelled so

record ColumnFound (s : Spelling) (told count : ℕ) (bytes ns : List ℕ) : Type 0 where
  spelled : bytes ≡ s.column told ns
  least : told ≡ width_in s ns
  many : count ≡ length ns
  each : AreBelow 32 ns

column_found : (s : Spelling) → IsSpelling s → (told count : ℕ) (bytes ns : List ℕ) → IsBytes bytes → numbers_spelled s told count bytes ≡ Some ns → ColumnFound s told count bytes ns
column_found s is told count bytes ns each gives =
    let b = s.bits told in
    let es = elements b count bytes in
    let passes = if_parts (is_column b count bytes && (told == width_in s es)) es ns gives in
    let tests = and_parts (is_column b count bytes) (told == width_in s es) passes.1 in
    let least : told ≡ width_in s es = eqb-true told (width_in s es) tests.1 in
    let read = elements_spell b count bytes (as_bytes bytes each) tests.0 in
    subst (ColumnFound s told count bytes) passes.0
    (record {
      spelled = read.spelled ∙ sym (is.column told es read.each);
      least = least;
      many = sym (length-elements b count bytes);
      each = wider b es read.most read.each;
    })

pub record NumbersFound (s : Spelling) (told count : ℕ) (bytes : List ℕ) (q : List ℕ × List ℕ) : Type 0 where
  pub spelled : bytes ≡ s.column told q.0 ++ q.1
  pub least : told ≡ width_in s q.0
  pub many : count ≡ length q.0
  pub each : AreBelow 32 q.0
  pub rest : IsBytes q.1

pub numbers_found : (s : Spelling) → IsSpelling s → (told count : ℕ) (bytes : List ℕ) (q : List ℕ × List ℕ) → IsBytes bytes → numbers_at s told count bytes ≡ Some q → NumbersFound s told count bytes q
numbers_found s is told count bytes q each gives =
    let size = column_size count (s.bits told) in
    let one = then_parts (bytes_at size bytes) _ q gives in
    let cut = (bytes_codec size).found bytes one.0.0 one.0.1 each one.1 in
    let two = then_parts (numbers_spelled s told count one.0.0) _ q one.2 in
    let found = column_found s is told count one.0.0 two.0 (IsBytes-front one.0.0 one.0.1 (subst IsBytes cut.0 each)) two.1 in
    subst (NumbersFound s told count bytes) (same_Some _ q two.2)
    (record {
      spelled = cut.0 ∙ ap (λ f. f ++ one.0.1) found.spelled;
      least = found.least;
      many = found.many;
      each = found.each;
      rest = cut.1;
    })

-- ---- what is read, by the parts of a reader

pub numbers_there : (s : Spelling) (told count : ℕ) (bytes column rest : List ℕ) → bytes_at (column_size count (s.bits told)) bytes ≡ Some (column, rest) → is_column (s.bits told) count column ≡ true
    → told ≡ width_in s (elements (s.bits told) count column) → numbers_at s told count bytes ≡ Some (elements (s.bits told) count column, rest)
numbers_there s told count bytes column rest read is least = rw (read, is, same_test told (width_in s (elements (s.bits told) count column)) (Some (elements (s.bits told) count column)) None least) refl

-- none are read where another width is the least
pub numbers_wide : (s : Spelling) (told count : ℕ) (bytes column rest : List ℕ) → bytes_at (column_size count (s.bits told)) bytes ≡ Some (column, rest) → is_column (s.bits told) count column ≡ true
    → (told ≡ width_in s (elements (s.bits told) count column) → ⊥) → numbers_at s told count bytes ≡ None
numbers_wide s told count bytes column rest read is other = rw (read, is, other_test told (width_in s (elements (s.bits told) count column)) (Some (elements (s.bits told) count column)) None other) refl
  where
    other_test : {A : Type 0} (a b : ℕ) (x y : A) → (a ≡ b → ⊥) → (if a == b then x else y) ≡ y
    other_test a b x y unequal = grind (arith, nat_tests)

-- nor where it has more than 32 bits
pub numbers_beyond : (s : Spelling) (told count : ℕ) (bytes : List ℕ) → 32 < s.bits told → numbers_at s told count bytes ≡ None
numbers_beyond s told count bytes wide = by_cut (bytes_at (column_size count (s.bits told)) bytes) refl
  where
    beyond : (n : ℕ) → 32 < n → nat_le n 32 ≡ false
    beyond n wide = grind (arith, nat_tests)

    none : (column : List ℕ) → numbers_spelled s told count column ≡ None
    none column = rw (beyond (s.bits told) wide) refl

    by_cut : (o : Option (List ℕ × List ℕ)) → bytes_at (column_size count (s.bits told)) bytes ≡ o → numbers_at s told count bytes ≡ None
    by_cut None cut = rw cut refl
    by_cut (Some c) cut = rw (cut, none c.0) refl

-- ---- what is told of numbers

pub least_width-is : (s : Spelling) (ns : List ℕ) → least_width s (length ns) (greatest ns) ≡ width_in s ns
least_width-is s [] = refl
least_width-is s (n ∷ ns) = some (length ns) (s.least (greatest (n ∷ ns)))
  where
    some : (k w : ℕ) → (if suc k == 0 then 0 else w) ≡ w
    some k w = grind (arith, nat_tests)

pub width_told : (s : Spelling) (ns : List ℕ) (count g w : ℕ) → length ns ≡ count → greatest ns ≡ g → w ≡ least_width s count g → w ≡ width_in s ns
width_told s ns count g w many most told = told ∙ ap (λ k. least_width s k g) (sym many) ∙ ap (least_width s (length ns)) (sym most) ∙ least_width-is s ns

-- the lengths of texts add up to their length together
pub sum_of_lengths : (xs : List (List ℕ)) → length (joined xs) < 2 ^ 32 → capped_sum (map length xs) ≡ length (joined xs)
sum_of_lengths xs short = omega (arith, all xs, short)
  where
    all : (xs : List (List ℕ)) → sum (map length xs) ≡ length (joined xs)
    all [] = refl
    all (x ∷ xs) = sum_by-cons (λ n. n) (length x) (map length xs) ∙ ap (λ n. length x + n) (all xs) ∙ sym (length-append x (joined xs))
