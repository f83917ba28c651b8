-- Where the columns of a record lie in its bytes, and that a column of bytes is its numbers.
use Rattle.std.proofs.Common.{◌≡◌, ◌∙◌, ℕ, ◌+◌, ◌<◌, List, [], ◌∷◌, ◌++◌, length, map, drop, refl, sym, ap, arith, append_assoc, append-nil}
use Rattle.std.proofs.Math.Nat.{mod-eq_of_lt}
use Rattle.std.proofs.lemmas.Bool.Decides.{nat_tests}
use Rattle.tc_record.specs.Preorder.{tokens_of}
use Rattle.tc_record.specs.Record.{greatest, numbers, width_of, numbered_form, packed_form, tags, fixed, texts, labels, joined, header_size, in_bytes, spelling_of, width_in, column_in}
use Rattle.tc_record.specs.Borrowed.{Record, Spells}
use Rattle.tc_record.proofs.Spelled.{slots, names}
use Rattle.tc_compact.specs.Layout.{parts_of, values, front}
use Rattle.tc_compact.specs.Slots.{numbers_in}
use Rattle.tc_compact.proofs.Compacts.{record_spelled}
use Rattle.tc_compact.proofs.Laid.{record_laid}
use Rattle.tc_compact.proofs.Repacks.{form1_tree}

-- all behind the lengths of texts, and all behind the fixed bytes
abbrev pub rest : Record → List ℕ
rest r = joined (texts r.tokens) ++ (column_in (spelling_of r.form) (slots r.tokens) ++ names r.tokens)

abbrev pub columns : Record → List ℕ
columns r = column_in (spelling_of r.form) (map length (texts r.tokens)) ++ rest r

-- what stands behind the header
pub body_cut : (r : Record) (bytes : List ℕ) → Spells r → bytes ≡ r.bytes → drop header_size bytes ≡ (tags r.tokens ++ fixed r.tokens) ++ columns r
body_cut r bytes spells same = ap (drop header_size) (same ∙ record_spelled r spells) ∙ sym (append_assoc (tags r.tokens) (fixed r.tokens) (columns r))

-- numbers that are bytes
ones : (ns : List ℕ) → greatest ns < 256 → numbers 1 ns ≡ ns
ones [] small = refl
ones (n ∷ ns) small = ap (λ k. k ∷ numbers 1 ns) (mod-eq_of_lt first) ∙ ap (λ ks. n ∷ ks) (ones ns (omega (arith, small)))
  where
    first : n < 256
    first = omega (arith, small)

-- a column of them in whole bytes
column_of_bytes : (ns : List ℕ) → greatest ns < 256 → column_in in_bytes ns ≡ ns
column_of_bytes [] small = refl
column_of_bytes (n ∷ ns) small = ap (λ w. numbers w (n ∷ ns)) (one (greatest (n ∷ ns)) small) ∙ ones (n ∷ ns) small
  where
    one : (g : ℕ) → g < 256 → width_of g ≡ 1
    one g small = grind (arith, nat_tests)

-- one at the front, in all forms but one
pub numbers_first : (form : ℕ) (ns rest bytes : List ℕ) → (form ≡ packed_form → ⊥) → greatest ns < 256 → bytes ≡ column_in (spelling_of form) ns ++ rest → bytes ≡ ns ++ rest
numbers_first form ns rest bytes other small first = first ∙ ap (λ bs. bs ++ rest) (ap (λ s. column_in s ns) whole ∙ column_of_bytes ns small)
  where
    whole : spelling_of form ≡ in_bytes
    whole = grind (arith, nat_tests, other)

-- a record of form 1 ends with its numbers
pub ends_in_numbers : (r : Record) → Spells r → r.form ≡ numbered_form → greatest (numbers_in r.tokens) < 256 → (head : List ℕ) × (r.bytes ≡ head ++ numbers_in r.tokens)
ends_in_numbers r spells form small =
    let tree = form1_tree r spells form in
    let ts = tokens_of tree.tree in
    let s = spelling_of r.form in
    let column = column_in s (labels ts) ++ [] in
    let head = front s r.form (header_size + (length (values s (parts_of ts)) + length column)) (parts_of ts) (length (labels ts)) (width_in s (labels ts)) in (
      head,
      tree.is.spelled ∙ record_laid s ts (labels ts) [] r.form
          ∙ ap (λ bs. head ++ bs) (append-nil (column_in s (labels ts)) ∙ ap (column_in s) (sym tree.numbers) ∙ ap (λ f. column_in (spelling_of f) (numbers_in r.tokens)) form ∙ column_of_bytes (numbers_in r.tokens) small),
    )
