-- How long a record is, and that its measure says so.
use Rattle.std.proofs.Common.{◌≡◌, ◌∙◌, ◌<◌, ◌≤◌, ◌+◌, ◌-◌, ◌*◌, ◌^◌, ℕ, zero, suc, min, max, if◌then◌else◌, ◌==◌, nat_lt, refl, sym, ap, List, [], ◌∷◌, ◌++◌, length, map, None, Some, Option, option_to_list, IfSome, IfNone, arith, length-append}
use Rattle.std.proofs.lemmas.Bool.Decides.{nat_tests}
use Rattle.std.proofs.lemmas.List.{map-append}
use Rattle.tc_model.specs.Document.{Name, Document, Scalar}
use Rattle.tc_record.specs.Preorder.{Token, tokens_of}
use Rattle.tc_record.proofs.NumberLengths.{length-numbers, width_of-le, width_of-some, covered, bytes_each}
use Rattle.tc_record.specs.declared.measure.ColumnSum.{ColumnSum}
use Rattle.tc_record.specs.declared.measure.Measure.{Measure}
use Rattle.tc_record.specs.Record.{piece_text, piece_fixed, tags, fixed, texts, labels, greatest, width, width_of, numbers, joined, record_bytes, record_of}
use Rattle.tc_record.specs.Measured.{sum_within, with_element, with_elements, with_label, with_piece, measured, no_elements, nothing_measured, column_width, column_len, record_len}

-- ---- columns

with_elements-append : (ns ms : List ℕ) (c : ColumnSum) → with_elements c (ns ++ ms) ≡ with_elements (with_elements c ns) ms
with_elements-append [] ms c = refl
with_elements-append (n ∷ ns) ms c = with_elements-append ns ms (with_element c n)

elements_count : (ns : List ℕ) (c : ColumnSum) → c.count < 2 ^ 64 → (with_elements c ns).count ≡ min (c.count + length ns) (2 ^ 64 - 1)
elements_count [] c fits = omega arith
elements_count (n ∷ ns) c fits = omega (arith, elements_count ns (with_element c n) (omega arith))

elements_greatest : (ns : List ℕ) (c : ColumnSum) → (with_elements c ns).greatest ≡ max c.greatest (greatest ns)
elements_greatest [] c = omega arith
elements_greatest (n ∷ ns) c = omega (arith, elements_greatest ns (with_element c n))

elements_bytes : (xs : List (List ℕ)) (c : ColumnSum) → c.bytes < 2 ^ 64 → (with_elements c (map length xs)).bytes ≡ min (c.bytes + length (joined xs)) (2 ^ 64 - 1)
elements_bytes [] c fits = omega arith
elements_bytes (x ∷ xs) c fits = omega (arith, length-append x (joined xs), elements_bytes xs (with_element c (length x)) (omega arith))

measured_tags : (ts : List (Token Name Scalar)) (m : Measure) → m.tags < 2 ^ 64 → (measured m ts).tags ≡ min (m.tags + length (tags ts)) (2 ^ 64 - 1)
measured_tags [] m fits = omega arith
measured_tags (t ∷ ts) m fits = omega (arith, measured_tags ts (with_piece (with_label m t.label) t.piece) (omega arith))

measured_fixed : (ts : List (Token Name Scalar)) (m : Measure) → m.fixed < 2 ^ 64 → (measured m ts).fixed ≡ min (m.fixed + length (fixed ts)) (2 ^ 64 - 1)
measured_fixed [] m fits = omega arith
measured_fixed (t ∷ ts) m fits = omega (arith, length-append (piece_fixed t.piece) (fixed ts), measured_fixed ts (with_piece (with_label m t.label) t.piece) (omega arith))

measured_texts : (ts : List (Token Name Scalar)) (m : Measure) → (measured m ts).texts ≡ with_elements m.texts (map length (texts ts))
measured_texts [] m = refl
measured_texts (t ∷ ts) m =
    measured_texts ts (with_piece (with_label m t.label) t.piece) ∙ sym (ap (with_elements m.texts) (map-append length (piece_text t.piece) (texts ts)) ∙ with_elements-append (map length (piece_text t.piece)) (map length (texts ts)) m.texts)

measured_names : (ts : List (Token Name Scalar)) (m : Measure) → (measured m ts).names ≡ with_elements m.names (map length (labels ts))
measured_names [] m = refl
measured_names (t ∷ ts) m =
    measured_names ts (with_piece (with_label m t.label) t.piece) ∙ sym (ap (with_elements m.names) (map-append length (option_to_list t.label) (labels ts)) ∙ with_elements-append (map length (option_to_list t.label)) (map length (labels ts)) m.names)

-- ---- the whole

-- a product stands still at the end where one of its factors does
product_within : (k w : ℕ) → w ≤ 4 → min (min k (2 ^ 64 - 1) * w) (2 ^ 64 - 1) ≡ min (k * w) (2 ^ 64 - 1)
product_within k zero small = omega arith
product_within k (suc zero) small = omega arith
product_within k (suc (suc zero)) small = omega arith
product_within k (suc (suc (suc zero))) small = omega arith
product_within k (suc (suc (suc (suc zero)))) small = omega arith
product_within k (suc (suc (suc (suc (suc w))))) small = absurd (omega arith)

-- the width of a column that has elements
width_some : (count greatest : ℕ) → 0 < count → (if count == 0 then 0 else width_of greatest) ≡ width_of greatest
width_some count greatest some = grind (arith, nat_tests)

column_parts : (c : ColumnSum) (k b : ℕ) → 0 < k → c.count ≡ min k (2 ^ 64 - 1) → c.bytes ≡ min b (2 ^ 64 - 1) → column_len c ≡ min (k * width_of c.greatest + b) (2 ^ 64 - 1)
column_parts c k b some count bytes =
    let w : column_width c ≡ width_of c.greatest = width_some c.count c.greatest (omega arith) in
    let product : min (c.count * width_of c.greatest) (2 ^ 64 - 1) ≡ min (k * width_of c.greatest) (2 ^ 64 - 1) = rw count (product_within k (width_of c.greatest) (width_of-le c.greatest)) in
    rw (w, product, bytes) (sums_within (k * width_of c.greatest) b)
  where
    sums_within : (p q : ℕ) → sum_within (min p (2 ^ 64 - 1)) (min q (2 ^ 64 - 1)) ≡ min (p + q) (2 ^ 64 - 1)
    sums_within p q = omega arith

column_total : (xs : List (List ℕ)) → column_len (with_elements no_elements (map length xs)) ≡ min (length (numbers (width (map length xs)) (map length xs)) + length (joined xs)) (2 ^ 64 - 1)
column_total [] = omega arith
column_total (x ∷ xs) =
    let ns = map length (x ∷ xs) in
    let c = with_elements no_elements ns in
    let greatest_is : c.greatest ≡ greatest ns = elements_greatest ns no_elements ∙ omega arith in
    let bytes : c.bytes ≡ min (length (joined (x ∷ xs))) (2 ^ 64 - 1) = elements_bytes (x ∷ xs) no_elements (omega arith) ∙ omega arith in
    let count : c.count ≡ min (length ns) (2 ^ 64 - 1) = elements_count ns no_elements (omega arith) ∙ omega arith in
    rw (length-numbers (width ns) ns, ← greatest_is) (column_parts c (length ns) (length (joined (x ∷ xs))) (omega arith) count bytes)

total_within : (t f p x q y : ℕ) → sum_within (sum_within (sum_within 23 (min t (2 ^ 64 - 1))) (min f (2 ^ 64 - 1))) (sum_within (min (p + x) (2 ^ 64 - 1)) (min (q + y) (2 ^ 64 - 1))) ≡ min (23 + (t + (f + (p + (x + (q + y)))))) (2 ^ 64 - 1)
total_within t f p x q y = omega arith

pub length-record_of : (ts : List (Token Name Scalar)) → length (record_bytes 0 ts (map length (labels ts)) (joined (labels ts)))
    ≡ 23 + (length (tags ts) + (length (fixed ts) + (length (numbers (width (map length (texts ts))) (map length (texts ts))) + (length (joined (texts ts)) + (length (numbers (width (map length (labels ts))) (map length (labels ts))) + length (joined (labels ts)))))))
length-record_of ts =
    let lengths = map length (texts ts) in
    let slots = map length (labels ts) in
    let last = numbers (width slots) slots ++ joined (labels ts) in
    let text_part = joined (texts ts) ++ last in
    let text_columns = numbers (width lengths) lengths ++ text_part in
    omega (arith, length-append (tags ts) (fixed ts ++ text_columns), length-append (fixed ts) text_columns, length-append (numbers (width lengths) lengths) text_part, length-append (joined (texts ts)) last, length-append (numbers (width slots) slots) (joined (labels ts)))

pub measured_len : (d : Document) → record_len (measured nothing_measured (tokens_of d)) ≡ min (length (record_of d)) (2 ^ 64 - 1)
measured_len d =
    let ts = tokens_of d in
    let lengths = map length (texts ts) in
    let slots = map length (labels ts) in
    let m = measured nothing_measured ts in
    let tag_count : m.tags ≡ min (length (tags ts)) (2 ^ 64 - 1) = measured_tags ts nothing_measured (omega arith) ∙ omega arith in
    let fixed_count : m.fixed ≡ min (length (fixed ts)) (2 ^ 64 - 1) = measured_fixed ts nothing_measured (omega arith) ∙ omega arith in
    let texts_len : column_len m.texts ≡ min (length (numbers (width lengths) lengths) + length (joined (texts ts))) (2 ^ 64 - 1) = rw (measured_texts ts nothing_measured) (column_total (texts ts)) in
    let names_len : column_len m.names ≡ min (length (numbers (width slots) slots) + length (joined (labels ts))) (2 ^ 64 - 1) = rw (measured_names ts nothing_measured) (column_total (labels ts)) in
    let whole : length (record_of d) ≡ 23 + (length (tags ts) + (length (fixed ts) + (length (numbers (width lengths) lengths) + (length (joined (texts ts)) + (length (numbers (width slots) slots) + length (joined (labels ts))))))) = length-record_of ts in
    rw (tag_count, fixed_count, texts_len, names_len, whole) (total_within (length (tags ts)) (length (fixed ts)) (length (numbers (width lengths) lengths)) (length (joined (texts ts))) (length (numbers (width slots) slots)) (length (joined (labels ts))))

-- what is answered of a length
pub sized : {P : Type 0} (n len : ℕ) (answer : Option ℕ) → P → n ≡ min len (2 ^ 64 - 1) → answer ≡ (if nat_lt n (2 ^ 32) then Some n else None)
    → (IfSome answer (λ m. P × (m ≡ len))) × IfNone answer (P → 2 ^ 32 ≤ len)
sized n len (Some m) p is answered = ((p, same_some n len m is answered), tt)
  where
    same_some : (n len m : ℕ) → n ≡ min len (2 ^ 64 - 1) → Some m ≡ (if nat_lt n (2 ^ 32) then Some n else None) → m ≡ len
    same_some n len m is answered = grind (arith, nat_tests)
sized n len None p is answered = (tt, λ _. too_long n len is answered)
  where
    too_long : (n len : ℕ) → n ≡ min len (2 ^ 64 - 1) → None ≡ (if nat_lt n (2 ^ 32) then Some n else None) → 2 ^ 32 ≤ len
    too_long n len is answered = grind (arith, nat_tests)

-- ---- a measure of a record that is short enough

-- a column that is short is measured exactly
pub record IsExact (xs : List (List ℕ)) (c : ColumnSum) : Type 0 where
  pub count : c.count ≡ length (map length xs)
  pub width : column_width c ≡ width (map length xs)

exact_column : (xs : List (List ℕ)) → length (numbers (width (map length xs)) (map length xs)) < 2 ^ 32 → IsExact xs (with_elements no_elements (map length xs))
exact_column [] short = record { count = refl; width = refl }
exact_column (x ∷ xs) short =
    let ns = map length (x ∷ xs) in
    let c = with_elements no_elements ns in
    let greatest_is : c.greatest ≡ greatest ns = elements_greatest ns no_elements ∙ omega arith in
    let cover : length ns ≤ length ns * width ns = covered (length ns) (width ns) (width_of-some (greatest ns)) (width_of-le (greatest ns)) in
    let few : length ns * width ns < 2 ^ 32 = rw (← length-numbers (width ns) ns) short in
    let count : c.count ≡ length ns = elements_count ns no_elements (omega arith) ∙ omega arith in
    record { count = count; width = width_some c.count c.greatest (omega arith) ∙ ap width_of greatest_is }

-- what the measure of a document says of a record below 2 ^ 32 bytes
pub record IsExactMeasure (d : Document) (m : Measure) : Type 0 where
  pub len : record_len m ≡ length (record_of d)
  pub tags : m.tags ≡ length (tags (tokens_of d))
  pub fixed : m.fixed ≡ length (fixed (tokens_of d))
  pub texts : IsExact (texts (tokens_of d)) m.texts
  pub names : IsExact (labels (tokens_of d)) m.names

pub exact_measure : (d : Document) → length (record_of d) < 2 ^ 32 → IsExactMeasure d (measured nothing_measured (tokens_of d))
exact_measure d short =
    let ts = tokens_of d in
    let whole = length-record_of ts in
    record {
      len = measured_len d ∙ omega arith;
      tags = measured_tags ts nothing_measured (omega arith) ∙ omega arith;
      fixed = measured_fixed ts nothing_measured (omega arith) ∙ omega arith;
      texts = rw (measured_texts ts nothing_measured) (exact_column (texts ts) (omega arith));
      names = rw (measured_names ts nothing_measured) (exact_column (labels ts) (omega arith));
    }

-- ---- no column of such a record has 2 ^ 32 elements

pub few_tags : (d : Document) → length (record_of d) < 2 ^ 32 → (measured nothing_measured (tokens_of d)).tags < 2 ^ 32
few_tags d short = omega (arith, (exact_measure d short).tags, length-record_of (tokens_of d))

pub few_fixed : (d : Document) → length (record_of d) < 2 ^ 32 → (measured nothing_measured (tokens_of d)).fixed < 2 ^ 32
few_fixed d short = omega (arith, (exact_measure d short).fixed, length-record_of (tokens_of d))

pub few_numbers : (ns : List ℕ) → length (numbers (width ns) ns) < 2 ^ 32 → length ns < 2 ^ 32
few_numbers ns short = omega (arith, bytes_each ns, short)

pub few_texts : (d : Document) → length (record_of d) < 2 ^ 32 → (measured nothing_measured (tokens_of d)).texts.count < 2 ^ 32
few_texts d short = omega (arith, (exact_measure d short).texts.count, few_numbers (map length (texts (tokens_of d))) (omega (arith, length-record_of (tokens_of d))))

pub few_names : (d : Document) → length (record_of d) < 2 ^ 32 → (measured nothing_measured (tokens_of d)).names.count < 2 ^ 32
few_names d short = omega (arith, (exact_measure d short).names.count, few_numbers (map length (labels (tokens_of d))) (omega (arith, length-record_of (tokens_of d))))
