-- That no counter passes 64 bits: at each path the values of all kinds together are counted in a u64.
use Rattle.std.specs.Prelude.{◌<◌, ◌^◌, List}
use Rattle.tc_model.specs.Document.{Name}
use Rattle.tc_model.specs.Dictionary.{number_of}
use Rattle.tc_schema_model.specs.Occurrences.{Path}
use Rattle.tc_schema_model.specs.Counted.{Counted, Fields, numbered_field, total_at}

-- from a place on, and from its fields on
abbrev pub DoesFit : List Name → Counted → Type 0
DoesFit names d = (path : Path) → total_at names d path < 2 ^ 64

abbrev pub DoFieldsFit : List Name → Fields → Type 0
DoFieldsFit names fs = (name : Name) → DoesFit names (numbered_field (number_of names name) fs)
