-- What the differences of the code mean.
use Rattle.tc_value.specs.Kinds.{kind_meant}
use Rattle.tc_schema.specs.Paths.{path_meant}
use Rattle.tc_difference.specs.declared.found.Found.{Found}
use Rattle.tc_difference.specs.Differences.{Difference}

abbrev pub found_meant : Found → Difference
found_meant x = record { path = path_meant x.path.items; kind = kind_meant x.kind; kept = x.kept; counted = x.counted }
