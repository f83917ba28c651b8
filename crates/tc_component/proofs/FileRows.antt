-- Two components of version 1, byte by byte: one of `{"a":true}` at key 1, and one without an entry. The first one in version 2 too.
use Rattle.std.proofs.Common.{◌≡◌, ℕ, List, [], ◌∷◌, codes, Some, Ok, refl}
use Rattle.std.specs.Str.{is_utf8, chars}
use lib.Utf8.{encode}
use Rattle.tc_model.specs.Document.{Name}
use Rattle.tc_schema_model.specs.Counted.{Counters, Counted, counted, nothing, no_counters, no_item, no_fields, a_field}
use Rattle.tc_schema.specs.Reading.{read_schema}
use Rattle.tc_store.specs.declared.file_name.FileName.TheVariants.{Component}
use Rattle.tc_record.specs.Rows.{numbered_flag_record, packed_flag_record}
use Rattle.tc_component.specs.declared.head.Head.{Head}
use Rattle.tc_component.specs.Spelling.{Row, index_of, file_bytes_as}
use Rattle.tc_component.specs.Reading.{file_judged}

-- the first component of partition 0 of 1
first_head : Head
first_head = record { number = 0; count = 1; from = 1; to = 1 }

flag_rows : List Row
flag_rows = (1, Some numbered_flag_record) ∷ []

flag_names : List Name
flag_names = codes "a" ∷ []

one_object : Counters
one_object = record no_counters { objects = 1 }

-- one document whose member of number 0 is a boolean
flag_schema : Counted
flag_schema = counted one_object no_item (a_field 0 (counted (record no_counters { booleans = 1 }) no_item no_fields) no_fields)

flag_bytes : List ℕ
flag_bytes =
    1 ∷ 0x54 ∷ 0x43 ∷ 0x43 ∷ 0x31 ∷ 0 ∷ 0 ∷ 0 ∷ 0 ∷ 0 ∷ 0 ∷ 0 ∷ 1 ∷ 0 ∷ 0 ∷ 0 ∷ 0 ∷ 0 ∷ 0 ∷ 0 ∷ 1 ∷ 0 ∷ 0 ∷ 0 ∷ 0 ∷ 0 ∷ 0 ∷ 0 ∷ 1
    ∷ 0 ∷ 0 ∷ 0 ∷ 0 ∷ 0 ∷ 0 ∷ 0 ∷ 0x1c ∷ 0 ∷ 0 ∷ 0 ∷ 0 ∷ 0 ∷ 0 ∷ 0 ∷ 1 ∷ 0 ∷ 0 ∷ 0 ∷ 0 ∷ 0 ∷ 0 ∷ 0 ∷ 9 ∷ 0 ∷ 0 ∷ 0 ∷ 0 ∷ 0 ∷ 0 ∷ 0 ∷ 0x1a
    ∷ 0 ∷ 0 ∷ 0 ∷ 0x1c ∷ 1 ∷ 0 ∷ 0 ∷ 0 ∷ 3 ∷ 0 ∷ 0 ∷ 0 ∷ 1 ∷ 0 ∷ 0 ∷ 0 ∷ 0 ∷ 0 ∷ 0 ∷ 0 ∷ 0 ∷ 1 ∷ 1 ∷ 6 ∷ 2 ∷ 7 ∷ 1 ∷ 0
    ∷ 0 ∷ 0 ∷ 0 ∷ 0 ∷ 0 ∷ 0 ∷ 0 ∷ 1 ∷ 0 ∷ 0 ∷ 0 ∷ 0x1c
    ∷ 0 ∷ 0 ∷ 0 ∷ 1 ∷ 0 ∷ 0 ∷ 0 ∷ 1 ∷ 0x61
    ∷ 6 ∷ 0 ∷ 0 ∷ 0 ∷ 0 ∷ 0 ∷ 0 ∷ 0 ∷ 1 ∷ 0 ∷ 0 ∷ 0 ∷ 1 ∷ 0 ∷ 0 ∷ 0 ∷ 0 ∷ 2 ∷ 0 ∷ 0 ∷ 0 ∷ 0 ∷ 0 ∷ 0 ∷ 0 ∷ 1 ∷ []

empty_bytes : List ℕ
empty_bytes =
    1 ∷ 0x54 ∷ 0x43 ∷ 0x43 ∷ 0x31 ∷ 0 ∷ 0 ∷ 0 ∷ 0 ∷ 0 ∷ 0 ∷ 0 ∷ 1 ∷ 0 ∷ 0 ∷ 0 ∷ 0 ∷ 0 ∷ 0 ∷ 0 ∷ 1 ∷ 0 ∷ 0 ∷ 0 ∷ 0 ∷ 0 ∷ 0 ∷ 0 ∷ 1
    ∷ 0 ∷ 0 ∷ 0 ∷ 0 ∷ 0 ∷ 0 ∷ 0 ∷ 0 ∷ 0 ∷ 0 ∷ 0 ∷ 0 ∷ 0 ∷ 0 ∷ 0 ∷ 0 ∷ 0 ∷ 0 ∷ 0 ∷ 0 ∷ 0 ∷ 0 ∷ 0 ∷ 4 ∷ 0 ∷ 0 ∷ 0 ∷ 0 ∷ 0 ∷ 0 ∷ 0 ∷ 1
    ∷ 0 ∷ 0 ∷ 0 ∷ 0 ∷ 0 ∷ []

-- in version 2 the mark and the record's form are others, for the number 0 takes one bit of a byte
packed_rows : List Row
packed_rows = (1, Some packed_flag_record) ∷ []

packed_bytes : List ℕ
packed_bytes =
    1 ∷ 0x54 ∷ 0x43 ∷ 0x43 ∷ 0x32 ∷ 0 ∷ 0 ∷ 0 ∷ 0 ∷ 0 ∷ 0 ∷ 0 ∷ 1 ∷ 0 ∷ 0 ∷ 0 ∷ 0 ∷ 0 ∷ 0 ∷ 0 ∷ 1 ∷ 0 ∷ 0 ∷ 0 ∷ 0 ∷ 0 ∷ 0 ∷ 0 ∷ 1
    ∷ 0 ∷ 0 ∷ 0 ∷ 0 ∷ 0 ∷ 0 ∷ 0 ∷ 0x1c ∷ 0 ∷ 0 ∷ 0 ∷ 0 ∷ 0 ∷ 0 ∷ 0 ∷ 1 ∷ 0 ∷ 0 ∷ 0 ∷ 0 ∷ 0 ∷ 0 ∷ 0 ∷ 9 ∷ 0 ∷ 0 ∷ 0 ∷ 0 ∷ 0 ∷ 0 ∷ 0 ∷ 0x1a
    ∷ 0 ∷ 0 ∷ 0 ∷ 0x1c ∷ 2 ∷ 0 ∷ 0 ∷ 0 ∷ 3 ∷ 0 ∷ 0 ∷ 0 ∷ 1 ∷ 0 ∷ 0 ∷ 0 ∷ 0 ∷ 0 ∷ 0 ∷ 0 ∷ 0 ∷ 1 ∷ 1 ∷ 6 ∷ 2 ∷ 7 ∷ 1 ∷ 0
    ∷ 0 ∷ 0 ∷ 0 ∷ 0 ∷ 0 ∷ 0 ∷ 0 ∷ 1 ∷ 0 ∷ 0 ∷ 0 ∷ 0x1c
    ∷ 0 ∷ 0 ∷ 0 ∷ 1 ∷ 0 ∷ 0 ∷ 0 ∷ 1 ∷ 0x61
    ∷ 6 ∷ 0 ∷ 0 ∷ 0 ∷ 0 ∷ 0 ∷ 0 ∷ 0 ∷ 1 ∷ 0 ∷ 0 ∷ 0 ∷ 1 ∷ 0 ∷ 0 ∷ 0 ∷ 0 ∷ 2 ∷ 0 ∷ 0 ∷ 0 ∷ 0 ∷ 0 ∷ 0 ∷ 0 ∷ 1 ∷ []

-- ---- what is spelled

flag_spelled : file_bytes_as 1 first_head flag_rows flag_names flag_schema ≡ flag_bytes
unfolding first_head flag_rows flag_names one_object flag_schema flag_bytes
flag_spelled = refl

empty_spelled : file_bytes_as 1 first_head [] [] nothing ≡ empty_bytes
unfolding first_head empty_bytes
empty_spelled = refl

-- ---- what is read

flag_read : file_judged (Component 1 1) flag_bytes ≡ Ok (index_of 1 first_head flag_rows flag_names flag_schema)
unfolding first_head flag_rows flag_names one_object flag_schema flag_bytes is_utf8 chars encode read_schema
flag_read = refl

empty_read : file_judged (Component 1 1) empty_bytes ≡ Ok (index_of 1 first_head [] [] nothing)
unfolding first_head empty_bytes read_schema
empty_read = refl

packed_spelled : file_bytes_as 2 first_head packed_rows flag_names flag_schema ≡ packed_bytes
unfolding first_head packed_rows flag_names one_object flag_schema packed_bytes
packed_spelled = refl

packed_read : file_judged (Component 1 1) packed_bytes ≡ Ok (index_of 2 first_head packed_rows flag_names flag_schema)
unfolding first_head packed_rows flag_names one_object flag_schema packed_bytes is_utf8 chars encode read_schema
packed_read = refl
