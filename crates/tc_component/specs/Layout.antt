-- The places and the sizes in the bytes of a component.
use Rattle.std.specs.Prelude.{ℕ, ◌+◌, ◌*◌, ◌^◌}
use Rattle.tc_component.specs.declared.head.Sizes.{Sizes}

-- keys and generations are below this
abbrev pub number_end : ℕ
number_end = 2 ^ 63

-- the header stands behind the gate
abbrev pub head_place : ℕ
head_place = 1

-- nine fields
abbrev pub head_size : ℕ
head_size = 60

-- the records stand behind the header
abbrev pub records_place : ℕ
records_place = 61

-- a key and a length
abbrev pub slot_size : ℕ
slot_size = 12

-- the header of a record, and the tags of an object without members
abbrev pub least_record : ℕ
least_record = 25

-- where the parts of a file of these sizes begin, and where it ends
abbrev pub directory_place : Sizes → ℕ
directory_place sizes = records_place + sizes.records

abbrev pub names_place : Sizes → ℕ
names_place sizes = directory_place sizes + sizes.entries * slot_size

abbrev pub schema_place : Sizes → ℕ
schema_place sizes = names_place sizes + sizes.names

abbrev pub file_size : Sizes → ℕ
file_size sizes = schema_place sizes + sizes.schema

-- a cursor reads so many bytes at once, or one record where that is longer
abbrev pub window_size : ℕ
window_size = 65536

-- in memory, so many entries of a directory stand between two marks
abbrev pub mark_step : ℕ
mark_step = 8
