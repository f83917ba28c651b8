-- How the bytes of a record are cut into its columns.
use Rattle.std.specs.Prelude.{◌≡◌, ◌≤◌, ℕ, ◌-◌, ◌^◌, min, ◌==◌, ◌||◌, ◌&&◌, nat_lt, Bool, true, false, if◌then◌else◌, List, ◌++◌, length, Option, None, Some}
use Rattle.std.specs.Int.{w32}
use Rattle.std.specs.List.{sum}
use Rattle.tc_bits.specs.Bits.{column_size, elements, is_column}
use Rattle.tc_bytes.specs.Reading.{Reader, ◌>>=◌, byte_at, number_at, bytes_at}
use Rattle.tc_model.specs.Document.{Scalar}
use Rattle.tc_record.specs.Preorder.{Token}
use Rattle.tc_record.specs.Record.{Spelling, width_in, spelling_of, named_form, numbered_form, packed_form, header_size}
use Rattle.tc_record.specs.Walk.{Key, Format, Columns, tokens_read}

-- the fields of a header
pub record Header : Type 0 where
  pub total : ℕ
  pub form : ℕ
  pub tags : ℕ
  pub fixed : ℕ
  pub texts : ℕ
  pub text_width : ℕ
  pub names : ℕ
  pub slot_width : ℕ

abbrev pub header_at : Reader Header
header_at bytes =
    number_at w32 bytes >>= λ total. byte_at total.1 >>= λ form. number_at w32 form.1 >>= λ tags. number_at w32 tags.1 >>= λ fixed. number_at w32 fixed.1 >>= λ texts. byte_at texts.1 >>= λ text_width. number_at w32 text_width.1 >>= λ names. byte_at names.1 >>= λ slot_width. Some (record { total = total.0; form = form.0; tags = tags.0; fixed = fixed.0; texts = texts.0; text_width = text_width.0; names = names.0; slot_width = slot_width.0 }, slot_width.1)

abbrev pub form_from : ℕ → Option Bool
form_from n = if n == named_form then Some true else (if n == numbered_form then Some false else (if n == packed_form then Some false else None))

-- the bytes that end a record behind its header
pub record IsTail (whole left : List ℕ) : Type 0 where
  pub front : List ℕ
  pub ends : whole ≡ front ++ left
  pub headed : header_size ≤ length front

-- the sum of numbers, which stands still at the end of 32 bits
abbrev pub capped_sum : List ℕ → ℕ
capped_sum ns = min (sum ns) (2 ^ 32 - 1)

-- whether each of so many numbers, of which the greatest is given, is below a limit
abbrev pub are_below : ℕ → ℕ → ℕ → Bool
are_below limit count greatest = (count == 0) || nat_lt greatest limit

-- the least width for so many numbers, of which the greatest is given
abbrev pub least_width : Spelling → ℕ → ℕ → ℕ
least_width s count greatest = if count == 0 then 0 else s.least greatest

-- the numbers of a column, where the width that is told is the least for them
abbrev pub numbers_spelled : Spelling → ℕ → ℕ → List ℕ → Option (List ℕ)
numbers_spelled s told count column =
    let numbers = elements (s.bits told) count column in
    if is_column (s.bits told) count column && (told == width_in s numbers) then Some numbers else None

-- so many numbers from the front of bytes
abbrev pub numbers_at : Spelling → ℕ → ℕ → Reader (List ℕ)
numbers_at s told count bytes =
    bytes_at (column_size count (s.bits told)) bytes >>= λ c. numbers_spelled s told count c.0 >>= λ ns. Some (ns, c.1)

pub record Sections : Type 0 where
  pub format : Format
  pub tags : List ℕ
  pub columns : Columns

abbrev pub columns_behind : Header → Bool → List ℕ → Option Sections
columns_behind h named bytes =
    bytes_at h.tags bytes >>= λ tags. bytes_at h.fixed tags.1 >>= λ fixed. numbers_at (spelling_of h.form) h.text_width h.texts fixed.1 >>= λ lengths. bytes_at (capped_sum lengths.0) lengths.1 >>= λ texts. numbers_at (spelling_of h.form) h.slot_width h.names texts.1 >>= λ slots.
    Some (record { format = record { form = h.form; named = named }; tags = tags.0; columns = record { fixed = fixed.0; lengths = lengths.0; texts = texts.0; slots = slots.0; names = slots.1 } })

abbrev pub sections_in : List ℕ → Option Sections
sections_in bytes = header_at bytes >>= λ h. if h.0.total == length bytes then (form_from h.0.form >>= λ named. columns_behind h.0 named h.1) else None

-- the form of a record and its tokens
abbrev pub record_read : List ℕ → Option (Format × List (Token Key Scalar))
record_read bytes = sections_in bytes >>= λ s. tokens_read s.format s.tags s.columns >>= λ ts. Some (s.format, ts)
