-- A merge that can be run, as contracts see it.
use Rattle.std.specs.Prelude.{List}
use Rattle.tc_component.specs.declared.head.Head.{Head}
use Rattle.tc_component.specs.Loading.{ComponentState}

-- the components, the device, the header and the watch
pub record JobState (F D W : Type 0) : Type 0 where
  pub run : List (ComponentState F)
  pub device : D
  pub head : Head
  pub watch : W
