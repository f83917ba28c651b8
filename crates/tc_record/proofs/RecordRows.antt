-- The definition of a record, computed on three documents.
use Rattle.std.specs.Prelude.{◌≡◌, refl}
use Rattle.std.specs.Int.Count.{count_leading_zeros}
use Rattle.tc_record.specs.Record.{record_of, numbered_record_of, packed_record_of}
use Rattle.tc_record.specs.Rows.{flag, numbered_flag, flag_record, numbered_flag_record, packed_flag_record, nothing, nothing_record, mixed, numbered_mixed, mixed_record, numbered_mixed_record, packed_mixed_record}

flag_row : record_of flag ≡ flag_record
flag_row = refl

numbered_flag_row : numbered_record_of numbered_flag ≡ numbered_flag_record
numbered_flag_row = refl

nothing_row : record_of nothing ≡ nothing_record
nothing_row = refl

mixed_row : record_of mixed ≡ mixed_record
mixed_row = refl

numbered_mixed_row : numbered_record_of numbered_mixed ≡ numbered_mixed_record
numbered_mixed_row = refl

packed_flag_row : packed_record_of numbered_flag ≡ packed_flag_record
unfolding count_leading_zeros
packed_flag_row = refl

packed_mixed_row : packed_record_of numbered_mixed ≡ packed_mixed_record
unfolding count_leading_zeros
packed_mixed_row = refl
