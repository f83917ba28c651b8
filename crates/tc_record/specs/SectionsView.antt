-- What the reader of a header and of columns shows.
use Rattle.tc_record.specs.Sections as cut
use Rattle.tc_record.specs.Walk as walk
use Rattle.tc_record.specs.WalkView.{numbers_of, format_of}
use Rattle.tc_record.specs.declared.header.Header.{Header}
use Rattle.tc_record.specs.declared.sections.ColumnBytes.{ColumnBytes}
use Rattle.tc_record.specs.declared.sections.Sections.{Sections}

abbrev pub header_of : Header → cut.Header
header_of h =
    record { total = h.total; form = h.form; tags = h.tags; fixed = h.fixed; texts = h.texts; text_width = h.text_width; names = h.names; slot_width = h.slot_width }

abbrev pub cut_columns_of : ColumnBytes → walk.Columns
cut_columns_of c = record { fixed = c.fixed.now; lengths = numbers_of c.lengths; texts = c.texts.now; slots = numbers_of c.slots; names = c.names.now }

abbrev pub sections_of : Sections → cut.Sections
sections_of s = record { format = format_of s.format; tags = s.tags.now; columns = cut_columns_of s.columns }
