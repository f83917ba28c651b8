-- What the paths of the code mean.
use Rattle.std.specs.Prelude.{List, map}
use Rattle.tc_schema_model.specs.Occurrences as paths
use Rattle.tc_value.specs.declared.names.Step.{Step}
use Rattle.tc_value.specs.declared.names.Step.TheVariants.{Field, Item}

abbrev pub step_meant : Step → paths.Step
step_meant (Field name) = paths.field name
step_meant Item = paths.each_item

abbrev pub path_meant : List Step → paths.Path
path_meant path = map step_meant path
