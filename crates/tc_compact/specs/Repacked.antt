-- The record of form 2 that takes the place of a record of form 1.
use Rattle.std.specs.Prelude.{◌≡◌, List, [], ℕ, option_map, unwrap_or}
use Rattle.tc_model.specs.Document.{Scalar}
use Rattle.tc_record.specs.Preorder.{Token}
use Rattle.tc_record.specs.Record.{in_bits, packed_form, record_in, NumberedTree, IsNumberedRecordOf, IsPackedRecordOf}
use Rattle.tc_record.specs.Sections.{record_read}
use Rattle.tc_record.specs.Walk.{Key}
use Rattle.tc_compact.specs.Slots.{numbers_in}

-- tokens with numbers, with the numbers of their columns in bits
abbrev pub packed_of : List (Token Key Scalar) → List ℕ
packed_of ts = record_in in_bits packed_form ts (numbers_in ts) []

-- in place of the bytes that spell tokens, and other bytes as they are
abbrev pub repacked : List ℕ → List ℕ
repacked bytes = unwrap_or (option_map (λ r. packed_of r.1) (record_read bytes)) bytes

-- a record that was repacked
pub record IsRepackedOf (bytes packed : List ℕ) : Type 0 where
  pub same : packed ≡ repacked bytes
  pub is_packed : (n : NumberedTree) → IsNumberedRecordOf n bytes → IsPackedRecordOf n packed
