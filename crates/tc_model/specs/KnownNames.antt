-- Names that a dictionary has.
use Rattle.std.specs.Prelude.{List, IsTrue, is_some}
use Rattle.std.specs.List.{AllByRecursion}
use Rattle.tc_model.specs.Document.{Name}
use Rattle.tc_model.specs.Dictionary.{number_of}

-- the dictionary has the name
abbrev pub HasNumber : List Name → Name → Type 0
HasNumber names name = IsTrue (is_some (number_of names name))

-- the dictionary has each of the names
abbrev pub HasEach : List Name → List Name → Type 0
HasEach names wanted = AllByRecursion (HasNumber names) wanted
