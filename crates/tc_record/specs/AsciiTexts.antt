-- Columns whose texts are not cut while their lengths are passed.
use Rattle.std.specs.Prelude.{◌-◌, length, drop}
use Rattle.std.specs.List.{sum}
use Rattle.tc_record.specs.Walk as walk
use Rattle.tc_record.specs.WalkView.{numbers_of, columns_of}
use Rattle.tc_record.specs.declared.reader.Columns.{Columns}

-- what is left of the columns, where all texts are there, and so many of their last bytes are left as the lengths that are left say
abbrev pub uncut_of : Columns → walk.Columns
uncut_of c = record (columns_of c) { texts = drop (length c.texts.now - sum (numbers_of c.lengths)) c.texts.now }
