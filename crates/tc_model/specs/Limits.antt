-- What lines, documents and keys are bounded by.
use Rattle.std.specs.Prelude.{ℕ}

-- bytes of a line before its line feed, at most
abbrev pub max_line : ℕ
max_line = 1048576

-- how deep a document may nest
abbrev pub max_depth : ℕ
max_depth = 32

-- the greatest key, which is the greatest `i64`
abbrev pub max_key : ℕ
max_key = 9223372036854775807
