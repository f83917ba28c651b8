-- How a record lies in bytes, and how long it is.
use Rattle.std.proofs.Common.{◌≡◌, ◌∙◌, ◌+◌, ℕ, List, ◌∷◌, ◌++◌, length, map, refl, sym, ap, arith, append_assoc, length-append}
use Rattle.std.specs.Int.{w32, to_be_bytes}
use Rattle.std.proofs.lemmas.List.{length-map}
use Rattle.tc_model.specs.Document.{Scalar}
use Rattle.tc_record.specs.Preorder.{Token}
use Rattle.tc_record.specs.Record.{piece_tag, tags, fixed, texts, labels, joined, greatest, header_size, Spelling, width_in, column_in, body_in, record_in}
use Rattle.tc_record.specs.Sections.{least_width}
use Rattle.tc_record.specs.Walk.{Key}
use Rattle.tc_record.proofs.NumberColumns.{width_told}
use Rattle.tc_record.proofs.Keyed.{retoken, tags-retoken, fixed-retoken, texts-retoken}
use Rattle.tc_compact.specs.Layout.{Parts, parts_of, values, counts, front, whole}

module _ {L : Type 0} (s : Spelling) (ts : List (Token L Scalar)) (slots names : List ℕ) where
  body_laid : body_in s ts slots names ≡ values s (parts_of ts) ++ (column_in s slots ++ names)
  body_laid =
      let b = fixed ts in
      let c = column_in s (map length (texts ts)) in
      let d = joined (texts ts) in
      let rest = column_in s slots ++ names in
      sym (append_assoc (tags ts) (b ++ (c ++ d)) rest ∙ ap (λ xs. tags ts ++ xs) (append_assoc b (c ++ d) rest ∙ ap (λ xs. b ++ xs) (append_assoc c d rest)))

  pub record_laid : (form : ℕ) → record_in s form ts slots names ≡ whole s form (parts_of ts) slots names
  record_laid form =
      let behind = column_in s slots ++ names in
      let len : length (body_in s ts slots names) ≡ length (values s (parts_of ts)) + length behind = ap length body_laid ∙ length-append (values s (parts_of ts)) behind in
      rw (len, body_laid) refl

-- tokens have the same parts with other labels
pub parts-retoken : {L : Type 0} (g : L → Key) (ts : List (Token L Scalar)) → parts_of (map (retoken g) ts) ≡ parts_of ts
parts-retoken g ts = rw (tags-retoken g ts, fixed-retoken g ts, texts-retoken g ts) refl

-- ---- how long it is

pub values_length : (s : Spelling) (p : Parts) → length (values s p) ≡ length p.tags + (length p.fixed + (length (column_in s p.lengths) + length p.texts))
values_length s p =
    let c = column_in s p.lengths in omega (arith, length-append p.tags (p.fixed ++ (c ++ p.texts)), length-append p.fixed (c ++ p.texts), length-append c p.texts)

module _ (s : Spelling) (form : ℕ) (p : Parts) (slots names : List ℕ) where
  whole_total : length (whole s form p slots names) ≡ header_size + (length (values s p) + length (column_in s slots ++ names))
  whole_total = let sum = length-append (values s p) (column_in s slots ++ names) in omega arith

  pub whole_sum : length (whole s form p slots names) ≡ header_size + (length (values s p) + (length (column_in s slots) + length names))
  whole_sum = omega (arith, whole_total, length-append (column_in s slots) names)

  -- by its columns
  pub whole_length : length (whole s form p slots names) ≡ header_size + (length p.tags + (length p.fixed + (length (column_in s p.lengths) + (length p.texts + (length (column_in s slots) + length names)))))
  whole_length = omega (arith, whole_sum, values_length s p)

  -- what was written part by part
  pub written_whole : (begun out : List ℕ) (len members w : ℕ) → len ≡ length (whole s form p slots names) → members ≡ length slots → w ≡ width_in s slots
      → begun ≡ front s form len p members w → out ≡ begun ++ (column_in s slots ++ names) → out ≡ whole s form p slots names
  written_whole begun out len members w total many least first all =
      let t = header_size + (length (values s p) + length (column_in s slots ++ names)) in
      all
      ∙ ap (λ bs. bs ++ (column_in s slots ++ names))
      (first ∙ ap (λ n. front s form n p members w) (total ∙ whole_total) ∙ ap (λ k. front s form t p k w) many ∙ ap (λ k. front s form t p (length slots) k) least)

-- the counts of tokens, by what is told of them
pub counts_told : (s : Spelling) (ts : List (Token Key Scalar)) (a b c g w m : ℕ) → a ≡ length ts → b ≡ length (fixed ts) → c ≡ length (texts ts) → g ≡ greatest (map length (texts ts)) → w ≡ least_width s c g → m ≡ length (labels ts)
    → to_be_bytes w32 a ++ (to_be_bytes w32 b ++ (to_be_bytes w32 c ++ (w ∷ to_be_bytes w32 m))) ≡ counts s (parts_of ts) (length (labels ts))
counts_told s ts a b c g w m tags_are fixed_are texts_are most told members =
    let lengths = map length (texts ts) in
    let many : length lengths ≡ c = length-map (texts ts) length ∙ sym texts_are in
    rw (tags_are ∙ sym (length-map ts (λ (t : Token Key Scalar). piece_tag t.piece)), fixed_are, width_told s lengths c g w many (sym most) told, sym many, members) refl
