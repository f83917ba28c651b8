-- The tags, the sizes and the limit of numbers in the bytes of a log.
use Rattle.std.specs.Prelude.{ℕ, ◌+◌}
use Rattle.tc_model.specs.Limits.{max_key}

-- an entry with a record
abbrev pub upsert_tag : ℕ
upsert_tag = 1

-- an entry without one
abbrev pub delete_tag : ℕ
delete_tag = 2

-- keys and generations are below this
abbrev pub number_end : ℕ
number_end = max_key + 1

-- the header stands behind the gate of the log
abbrev pub head_place : ℕ
head_place = 1

-- four fields
abbrev pub head_size : ℕ
head_size = 20

-- the gate of a frame, the number of its writes, and the length of its body
abbrev pub leading_size : ℕ
leading_size = 9

-- a log without a frame: its gate, its header, and the gate of the frame to come
abbrev pub empty_size : ℕ
empty_size = 22
