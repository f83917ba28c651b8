-- A flush that can be run, as contracts see it.
use Rattle.std.specs.Prelude.{List}
use Rattle.tc_model.specs.Document.{Name}
use Rattle.tc_schema_model.specs.Counted.{Counted}
use Rattle.tc_memory.specs.Table.{Table}
use Rattle.tc_component.specs.declared.head.Head.{Head}

-- the sealed table, the newest schema and names, the device, the header and the watch
pub record JobState (D W : Type 0) : Type 0 where
  pub kept : Table
  pub schema : Counted
  pub names : List Name
  pub device : D
  pub head : Head
  pub watch : W
