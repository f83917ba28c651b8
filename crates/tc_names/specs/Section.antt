-- The bytes of a dictionary: the number of names in four bytes, and then each name behind its length in four bytes.
use Rattle.std.specs.Prelude.{ℕ, Bool, not, List, Option, is_some}
use Rattle.std.specs.Str.{is_utf8}
use Rattle.tc_bytes.specs.Reading.{Reader, counted_bytes_at, passing_at, counted_list_at, whole}
use Rattle.tc_bytes.specs.Codec.{counted_bytes, counted_list}
use Rattle.tc_model.specs.Dictionary.{number_of}

-- the bytes of a dictionary
abbrev pub section : List (List ℕ) → List ℕ
section names = counted_list counted_bytes names

-- a name is a text
abbrev pub name_at : Reader (List ℕ)
name_at = passing_at is_utf8 counted_bytes_at

-- a name that none of those before has
abbrev pub is_new : List (List ℕ) → List ℕ → Bool
is_new names name = not (is_some (number_of names name))

-- the dictionary that all of the bytes spell
abbrev pub read_section : List ℕ → Option (List (List ℕ))
read_section = whole (counted_list_at is_new name_at)
