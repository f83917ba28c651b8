-- Which bytes of two records have to be the same for their tokens to be alike.
use Rattle.std.proofs.Common.{◌≡◌, ◌∙◌, ◌≤◌, ◌<◌, ◌+◌, ◌-◌, ◌^◌, ℕ, Bool, true, false, not, bytes_eq, List, [], ◌∷◌, ◌++◌, None, length, take, drop, get_or, map, refl, sym, ap, subst, arith, append_assoc, append-nil, length-append}
use Rattle.std.specs.Int.{w32, from_be_bytes, to_be_bytes}
use Rattle.std.proofs.lemmas.List.{take_at, drop_at, length-map}
use Rattle.std.proofs.lemmas.Nat.{from_be_bytes-to_be_bytes_4}
use Rattle.std.proofs.lemmas.Option.{same_Some}
use Rattle.std.proofs.lemmas.Slice.Eq.{bytes_eq-Decides}
use Rattle.tc_bits.specs.Bits.{column_size}
use Rattle.tc_bits.proofs.Joined.{AreBelow}
use Rattle.tc_record.specs.Preorder.{tokens_of}
use Rattle.tc_record.specs.Record.{tags, fixed, texts, labels, joined, width_in, column_in, spelling_of, body_in, NumberedTree, IsNumberedForm, IsNumberedRecordIn}
use Rattle.tc_record.specs.Borrowed.{Record, Spells, numbered_tokens}
use Rattle.tc_record.specs.Sections.{numbers_at}
use Rattle.tc_record.specs.Walk.{number}
use Rattle.tc_record.proofs.ColumnSizes.{column_in-length}
use Rattle.tc_record.proofs.Cutting.{labels_within}
use Rattle.tc_record.proofs.Keyed.{retoken, preorder-relabel, labels-retoken}
use Rattle.tc_record.proofs.NumberColumns.{numbers_again}
use Rattle.tc_record.proofs.Reading.{numbers_small}
use Rattle.tc_record.proofs.Spellings.{form_spells}
use Rattle.tc_compact.proofs.NumberedTrees.{tree_tokens}
use Rattle.tc_alike.specs.Alike.{AreAlike}

-- ---- the bytes of one record

-- a header with these fields, and what is behind it
abbrev headed : (total form tags fixed texts text_width numbers width : ℕ) → List ℕ → List ℕ
headed total form tags fixed texts text_width numbers width content =
    to_be_bytes w32 total ++ (form ∷ (to_be_bytes w32 tags ++ (to_be_bytes w32 fixed ++ (to_be_bytes w32 texts ++ (text_width ∷ (to_be_bytes w32 numbers ++ (width ∷ content)))))))

same_number : (x y : ℕ) → x < 2 ^ 32 → y < 2 ^ 32 → to_be_bytes w32 x ≡ to_be_bytes w32 y → x ≡ y
same_number x y small other same = sym (from_be_bytes-to_be_bytes_4 x small) ∙ ap (from_be_bytes w32) same ∙ from_be_bytes-to_be_bytes_4 y other

five_parts : (a b c d e : List ℕ) → a ++ (b ++ (c ++ (d ++ e))) ≡ (a ++ (b ++ (c ++ d))) ++ e
five_parts a b c d e = sym (append_assoc a (b ++ (c ++ d)) e ∙ ap (λ r. a ++ r) (append_assoc b (c ++ d) e ∙ ap (λ r. b ++ r) (append_assoc c d e)))

last_part : (front back : List ℕ) → drop (length (front ++ back) - length back) (front ++ back) ≡ back
last_part front back = let all = length-append front back in drop_at front back (length (front ++ back) - length back) (omega (arith, all))

-- what stands where in the record of a tree
record Placed (form : ℕ) (n : NumberedTree) (bytes : List ℕ) : Type 0 where
  formed : take 5 (drop 4 bytes) ≡ form ∷ to_be_bytes w32 (length (tags (tokens_of n)))
  tagged : take (5 + length (tags (tokens_of n))) (drop 18 bytes) ≡ to_be_bytes w32 (length (labels (tokens_of n))) ++ (width_in (spelling_of form) (labels (tokens_of n)) ∷ tags (tokens_of n))
  width : get_or bytes 22 0 ≡ width_in (spelling_of form) (labels (tokens_of n))
  ending : drop (length bytes - column_size (length (labels (tokens_of n))) ((spelling_of form).bits (width_in (spelling_of form) (labels (tokens_of n))))) bytes ≡ column_in (spelling_of form) (labels (tokens_of n)) ++ []
  few_tags : length (tags (tokens_of n)) < 2 ^ 32
  few_numbers : length (labels (tokens_of n)) < 2 ^ 32

numbers_within : (n : NumberedTree) → length (labels (tokens_of n)) ≤ length (tags (tokens_of n))
numbers_within n =
    let ts = tokens_of n in
    let keyed : numbered_tokens n ≡ map (retoken number) ts = preorder-relabel number n None in
    let numbers : length (labels (numbered_tokens n)) ≡ length (labels ts) = ap length (ap labels keyed ∙ labels-retoken number ts) ∙ length-map (labels ts) number in
    let many : length (numbered_tokens n) ≡ length ts = ap length keyed ∙ length-map ts (retoken number) in
    let tagged : length (tags ts) ≡ length ts = length-map ts _ in
    omega (arith, labels_within (numbered_tokens n), numbers, many, tagged)

placed : (form : ℕ) (n : NumberedTree) (bytes : List ℕ) → IsNumberedRecordIn form n bytes → Placed form n bytes
placed form n bytes is =
    let ts = tokens_of n in
    let ks = labels ts in
    let sp = spelling_of form in
    let lengths = map length (texts ts) in
    let last = column_in sp ks ++ [] in
    let front = tags ts ++ (fixed ts ++ (column_in sp lengths ++ joined (texts ts))) in
    let behind = fixed ts ++ (column_in sp lengths ++ (joined (texts ts) ++ last)) in
    let content = body_in sp ts ks [] in
    let head : List ℕ → List ℕ = headed (23 + length content) form (length (tags ts)) (length (fixed ts)) (length lengths) (width_in sp lengths) (length ks) (width_in sp ks) in
    let spelled : bytes ≡ head content = is.spelled in
    let grouped : content ≡ front ++ last = five_parts (tags ts) (fixed ts) (column_in sp lengths) (joined (texts ts)) last in
    let size : column_size (length ks) (sp.bits (width_in sp ks)) ≡ length last = sym (ap length (append-nil (column_in sp ks)) ∙ column_in-length sp (form_spells form) ks (numbers_small n is.tree)) in
    let long : length (head content) < 2 ^ 32 = subst (λ bs. length bs < 2 ^ 32) spelled is.short in
    let sum = length-append (tags ts) behind in
    let few : length (tags ts) < 2 ^ 32 = omega (arith, long, sum) in
    record {
      formed = ap (λ bs. take 5 (drop 4 bs)) spelled;
      tagged = ap (λ bs. take (5 + length (tags ts)) (drop 18 bs)) spelled ∙ take_at (to_be_bytes w32 (length ks) ++ (width_in sp ks ∷ tags ts)) behind (5 + length (tags ts)) (omega arith);
      width = ap (λ bs. get_or bs 22 0) spelled;
      ending =
          ap (λ k. drop (length bytes - k) bytes) size
          ∙ ap (λ bs. drop (length bs - length last) bs) (spelled ∙ ap head grouped)
          ∙ last_part (head front) last;
      few_tags = few;
      few_numbers = omega (arith, few, numbers_within n);
    }

-- as many as a record tells
module _ (r : Record) (own : ℕ) (n : NumberedTree) (spells : Spells r) (told : IsNumberedForm own) (is : IsNumberedRecordIn own n r.bytes) where
  keyed : r.tokens ≡ map (retoken number) (tokens_of n)
  keyed = tree_tokens r own n spells told is ∙ preorder-relabel number n None

  pub tags_counted : length r.tokens ≡ length (tags (tokens_of n))
  tags_counted = ap length keyed ∙ length-map (tokens_of n) (retoken number) ∙ sym (length-map (tokens_of n) _)

  pub numbers_counted : length (labels r.tokens) ≡ length (labels (tokens_of n))
  numbers_counted = ap length (ap labels keyed ∙ labels-retoken number (tokens_of n)) ∙ length-map (labels (tokens_of n)) number

-- ---- two of them

-- a test of bytes that they differ
pub equal_by : (xs ys : List ℕ) → not (bytes_eq xs ys) ≡ false → xs ≡ ys
equal_by xs ys test = (bytes_eq-Decides xs ys).0 (negated (bytes_eq xs ys) test)
  where
    negated : (b : Bool) → not b ≡ false → b ≡ true
    negated true test = refl
    negated false test = absurd (cc)

same_column : (form : ℕ) (ks js : List ℕ) → AreBelow 32 ks → AreBelow 32 js → length ks ≡ length js → width_in (spelling_of form) ks ≡ width_in (spelling_of form) js
    → column_in (spelling_of form) ks ++ [] ≡ column_in (spelling_of form) js ++ [] → ks ≡ js
same_column form ks js small other many width same =
    let sp = spelling_of form in
    let one = numbers_again sp (form_spells form) ks [] small in
    let two = numbers_again sp (form_spells form) js [] other in
    let read : numbers_at sp (width_in sp ks) (length ks) (column_in sp ks ++ []) ≡ numbers_at sp (width_in sp js) (length js) (column_in sp js ++ []) = rw (many, width, same) refl in
    ap (λ (p : List ℕ × List ℕ). p.0) (same_Some (ks, []) (js, []) (sym one ∙ read ∙ two))

-- Of the record of a tree and other bytes the form and the number of tags are the same, and the number of numbers, their width and
-- the tags, and the column of numbers, as long as it is in the record.
pub record AgreeWith (n : NumberedTree) (form : ℕ) (bytes other : List ℕ) : Type 0 where
  pub formed : take 5 (drop 4 bytes) ≡ take 5 (drop 4 other)
  pub tagged : take (5 + length (tags (tokens_of n))) (drop 18 bytes) ≡ take (5 + length (tags (tokens_of n))) (drop 18 other)
  pub ending : (size : ℕ) × (size ≡ column_size (length (labels (tokens_of n))) ((spelling_of form).bits (get_or bytes 22 0))) × (drop (length bytes - size) bytes ≡ drop (length other - size) other)

pub alike_by_bytes : (own form : ℕ) (n m : NumberedTree) (bytes other : List ℕ) → IsNumberedRecordIn own n bytes → IsNumberedRecordIn form m other → AgreeWith n own bytes other → AreAlike (tokens_of n) (tokens_of m)
alike_by_bytes own form n m bytes other is that agree = alike (placed own n bytes is) (placed form m other that)
  where
    alike : Placed own n bytes → Placed form m other → AreAlike (tokens_of n) (tokens_of m)
    alike p q =
        let ts = tokens_of n in
        let us = tokens_of m in
        let forms : own ∷ to_be_bytes w32 (length (tags ts)) ≡ form ∷ to_be_bytes w32 (length (tags us)) = sym p.formed ∙ agree.formed ∙ q.formed in
        let form_is : own ≡ form = ap (λ bs. get_or bs 0 0) forms in
        let many : length (tags ts) ≡ length (tags us) = same_number (length (tags ts)) (length (tags us)) p.few_tags q.few_tags (ap (drop 1) forms) in
        let both : to_be_bytes w32 (length (labels ts)) ++ (width_in (spelling_of own) (labels ts) ∷ tags ts) ≡ to_be_bytes w32 (length (labels us)) ++ (width_in (spelling_of form) (labels us) ∷ tags us) =
        sym p.tagged ∙ agree.tagged ∙ ap (λ k. take (5 + k) (drop 18 other)) many ∙ q.tagged in
        let as_many : length (labels ts) ≡ length (labels us) = same_number (length (labels ts)) (length (labels us)) p.few_numbers q.few_numbers (ap (take 4) both) in
        let width : width_in (spelling_of own) (labels ts) ≡ width_in (spelling_of form) (labels us) = ap (λ bs. get_or bs 4 0) both in
        let size_is : agree.ending.0 ≡ column_size (length (labels ts)) ((spelling_of own).bits (width_in (spelling_of own) (labels ts))) = agree.ending.1 ∙ ap (λ w. column_size (length (labels ts)) ((spelling_of own).bits w)) p.width in
        let other_size : agree.ending.0 ≡ column_size (length (labels us)) ((spelling_of form).bits (width_in (spelling_of form) (labels us))) = size_is ∙ rw (as_many, width, form_is) refl in
        let column : column_in (spelling_of own) (labels ts) ++ [] ≡ column_in (spelling_of form) (labels us) ++ [] =
        sym p.ending ∙ ap (λ k. drop (length bytes - k) bytes) (sym size_is) ∙ agree.ending.2 ∙ ap (λ k. drop (length other - k) other) other_size ∙ q.ending in
        record {
          tags_are = ap (drop 5) both;
          numbers_are = same_column form (labels ts) (labels us) (numbers_small n is.tree) (numbers_small m that.tree) as_many
              (subst (λ f. width_in (spelling_of f) (labels ts) ≡ width_in (spelling_of form) (labels us)) form_is width)
              (subst (λ f. column_in (spelling_of f) (labels ts) ++ [] ≡ column_in (spelling_of form) (labels us) ++ []) form_is column);
        }
