-- The headers of shared components.
use Rattle.std.specs.Arc.{arc_value}
use Rattle.std.specs.declared.alloc.Global.{Global}
use Rattle.std.specs.declared.sync.Arc.{Arc}
use Rattle.tc_component.specs.declared.head.Head.{Head}
use Rattle.tc_component.specs.Loading.{ComponentState}

abbrev pub head_of : {F : Type 0} → Arc (ComponentState F) Global → Head
head_of share = (arc_value share).index.head
