-- Columns of numbers that stand one after the other, each in the same number of bits.
use Rattle.std.specs.Prelude.{◌≡◌, ◌≤◌, ◌<◌, ℕ, ◌+◌, ◌-◌, ◌*◌, ◌/◌, ◌%◌, ◌^◌, max, ◌==◌, ◌&&◌, nat_le, nat_lt, if◌then◌else◌, Bool, IsTrue, List, [], ◌∷◌, length, map}
use Rattle.std.specs.Int.{w32, leading_zeros, bytes_high_first}
use Rattle.std.specs.List.{range_with_len, AllByRecursion}

-- the greatest width of a column
abbrev pub max_width : ℕ
max_width = 32

-- how many binary digits a number of 32 bits has, and at least 1
abbrev pub digits : ℕ → ℕ
digits n = max 1 (32 - leading_zeros w32 n)

-- how many bytes a column takes, and how many bits of its last one are filled with zeros
abbrev pub column_size : ℕ → ℕ → ℕ
column_size count w = (count * w + 7) / 8

abbrev pub filling : ℕ → ℕ → ℕ
filling count w = 8 * column_size count w - count * w

-- the number of which these are the digits in base 2 ^ w, the highest first
abbrev pub joined : ℕ → List ℕ → ℕ
joined w [] = 0
joined w (n ∷ ns) = n * 2 ^ (w * length ns) + joined w ns

-- the elements one after the other, highest bit first, and zeros after the last one
abbrev pub column : ℕ → List ℕ → List ℕ
column w ns = bytes_high_first (column_size (length ns) w) (joined w ns * 2 ^ filling (length ns) w)

-- ---- reading

-- the number that bytes are, the highest first
abbrev pub value : List ℕ → ℕ
value [] = 0
value (b ∷ bytes) = b * 2 ^ (8 * length bytes) + value bytes

-- so many bits of a number, above so many others
abbrev pub field_of : ℕ → ℕ → ℕ → ℕ
field_of above w n = n / 2 ^ above % 2 ^ w

-- the number with these bits in their place
abbrev pub with_field : ℕ → ℕ → ℕ → ℕ → ℕ
with_field above w v n = n / 2 ^ (above + w) * 2 ^ (above + w) + (v * 2 ^ above + n % 2 ^ above)

-- how many bits stand after so many of them at a place
abbrev pub bits_after : ℕ → ℕ → List ℕ → ℕ
bits_after w place bytes = 8 * length bytes - (place + w)

-- so many bits after so many others, as a number
abbrev pub bits_at : ℕ → ℕ → List ℕ → ℕ
bits_at w place bytes = field_of (bits_after w place bytes) w (value bytes)

-- a number from which all bits are read that stand in the last eight of so many bytes
abbrev pub IsWindow : ℕ → ℕ → List ℕ → Type 0
IsWindow end number bytes = (w place : ℕ) → 8 * end ≤ place + 64 → place + w ≤ 8 * end → field_of (8 * end - (place + w)) w number ≡ bits_at w place bytes

-- bits that fill whole bytes begin with one
abbrev pub IsAligned : ℕ → ℕ → Type 0
IsAligned w place = w % 8 ≡ 0 → place % 8 ≡ 0

-- the number that bytes are once these bits were written
abbrev pub with_bits : ℕ → ℕ → ℕ → List ℕ → ℕ
with_bits w place v bytes = with_field (bits_after w place bytes) w v (value bytes)

abbrev pub elements : ℕ → ℕ → List ℕ → List ℕ
elements w count bytes = map (λ i. bits_at w (w * i) bytes) (range_with_len 0 count)

-- a width is 0 exactly where there is no element
abbrev pub is_width_for : ℕ → ℕ → Bool
is_width_for w count = if count == 0 then w == 0 else nat_lt 0 w

-- whether bytes are a column of so many elements
abbrev pub is_column : ℕ → ℕ → List ℕ → Bool
is_column w count bytes =
    nat_le w max_width && (is_width_for w count && ((length bytes == column_size count w) && (value bytes % 2 ^ filling count w == 0)))

-- the bytes are the column of these elements
pub record IsColumn (w : ℕ) (ns : List ℕ) (bytes : List ℕ) : Type 0 where
  pub most : w ≤ max_width
  pub fits : IsTrue (is_width_for w (length ns))
  pub each : AllByRecursion (λ n. n < 2 ^ w) ns
  pub spelled : bytes ≡ column w ns

-- ---- writing

-- the bits that wait to be written, as a number, and how many bits each number to come has
pub record Waiting : Type 0 where
  pub width : ℕ
  pub number : ℕ
  pub bits : ℕ

-- the bytes of the bits that wait and of numbers behind them, and zeros after the last one
abbrev pub written : Waiting → List ℕ → List ℕ
written w ns =
    let bits = w.bits + w.width * length ns in
    let size = (bits + 7) / 8 in
    bytes_high_first size ((w.number * 2 ^ (w.width * length ns) + joined w.width ns) * 2 ^ (8 * size - bits))
