-- Where the bytes of a text are kept.
use Rattle.std.specs.Prelude.{ℕ, List, ◌≤◌, length, take, IsUtf8, string_bytes}
use Rattle.tc_value.specs.declared.text.Kept.{Kept}
use Rattle.tc_value.specs.declared.text.Kept.TheVariants.{InPlace, Apart}

abbrev pub bytes_kept : Kept → List ℕ
bytes_kept (InPlace len bytes) = take len bytes
bytes_kept (Apart text) = string_bytes text

-- what is kept in place fits there, and is UTF-8, as a string is
abbrev pub IsKept : Kept → Type 0
IsKept (InPlace len bytes) = (len ≤ 30) × IsUtf8 (take len bytes)
IsKept (Apart text) = Unit {0}
