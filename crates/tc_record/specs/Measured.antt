-- What the columns of tokens add up to, where each count stands still at the end of 64 bits.
use Rattle.std.specs.Prelude.{ℕ, ◌+◌, ◌-◌, ◌*◌, ◌^◌, ◌==◌, if◌then◌else◌, min, max, List, [], ◌∷◌, length, map, Option, option_to_list}
use Rattle.tc_model.specs.Document.{Name, Scalar}
use Rattle.tc_record.specs.Preorder.{Piece, Token}
use Rattle.tc_record.specs.Record.{piece_fixed, piece_text, width_of, header_size}
use Rattle.tc_record.specs.declared.measure.ColumnSum.{ColumnSum}
use Rattle.tc_record.specs.declared.measure.Measure.{Measure}

abbrev pub sum_within : ℕ → ℕ → ℕ
sum_within a b = min (a + b) (2 ^ 64 - 1)

-- one element more
abbrev pub with_element : ColumnSum → ℕ → ColumnSum
with_element c n = record { count = sum_within c.count 1; greatest = max c.greatest n; bytes = sum_within c.bytes n }

abbrev pub with_elements : ColumnSum → List ℕ → ColumnSum
with_elements c [] = c
with_elements c (n ∷ ns) = with_elements (with_element c n) ns

abbrev pub with_label : Measure → Option Name → Measure
with_label m l = record m { names = with_elements m.names (map length (option_to_list l)) }

abbrev pub with_piece : Measure → Piece Scalar → Measure
with_piece m p =
    record {
      tags = sum_within m.tags 1;
      fixed = sum_within m.fixed (length (piece_fixed p));
      texts = with_elements m.texts (map length (piece_text p));
      names = m.names;
    }

-- with each of the tokens
abbrev pub measured : Measure → List (Token Name Scalar) → Measure
measured m [] = m
measured m (t ∷ ts) = measured (with_piece (with_label m t.label) t.piece) ts

abbrev pub no_elements : ColumnSum
no_elements = record { count = 0; greatest = 0; bytes = 0 }

abbrev pub nothing_measured : Measure
nothing_measured = record { tags = 0; fixed = 0; texts = no_elements; names = no_elements }

-- how many bytes the numbers of a column and what they measure take
abbrev pub column_width : ColumnSum → ℕ
column_width c = if c.count == 0 then 0 else width_of c.greatest

abbrev pub column_len : ColumnSum → ℕ
column_len c = sum_within (min (c.count * column_width c) (2 ^ 64 - 1)) c.bytes

-- header and columns
abbrev pub record_len : Measure → ℕ
record_len m = sum_within (sum_within (sum_within header_size m.tags) m.fixed) (sum_within (column_len m.texts) (column_len m.names))
