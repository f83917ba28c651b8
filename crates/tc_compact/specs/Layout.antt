-- How a record lies in bytes, by what all of its forms share: they differ in the length, the form, how numbers are spelled, and in
-- what stands behind the texts.
use Rattle.std.specs.Prelude.{ℕ, ◌+◌, List, ◌∷◌, ◌++◌, length, map}
use Rattle.std.specs.Int.{w32, to_be_bytes}
use Rattle.tc_model.specs.Document.{Scalar}
use Rattle.tc_record.specs.Preorder.{Token}
use Rattle.tc_record.specs.Record.{tags, fixed, texts, joined, header_size, Spelling, width_in, column_in}

-- the columns that do not depend on what members carry
pub record Parts : Type 0 where
  pub tags : List ℕ
  pub fixed : List ℕ
  pub lengths : List ℕ
  pub texts : List ℕ

abbrev pub parts_of : {L : Type 0} → List (Token L Scalar) → Parts
parts_of ts = record { tags = tags ts; fixed = fixed ts; lengths = map length (texts ts); texts = joined (texts ts) }

-- these columns, one behind the other
abbrev pub values : Spelling → Parts → List ℕ
values s p = p.tags ++ (p.fixed ++ (column_in s p.lengths ++ p.texts))

-- the counts of a header, and the width of a length
abbrev pub counts : Spelling → Parts → ℕ → List ℕ
counts s p members =
    to_be_bytes w32 (length p.tags) ++ (to_be_bytes w32 (length p.fixed) ++ (to_be_bytes w32 (length p.lengths) ++ (width_in s p.lengths ∷ to_be_bytes w32 members)))

-- all before the slots, in a record of so many bytes and members
abbrev pub front : Spelling → ℕ → ℕ → Parts → ℕ → ℕ → List ℕ
front s form total p members slot_width = to_be_bytes w32 total ++ (form ∷ (counts s p members ++ (slot_width ∷ values s p)))

-- a whole record, with these slots and names
abbrev pub whole : Spelling → ℕ → Parts → List ℕ → List ℕ → List ℕ
whole s form p slots names =
    let behind = column_in s slots ++ names in
    front s form (header_size + (length (values s p) + length behind)) p (length slots) (width_in s slots) ++ behind
