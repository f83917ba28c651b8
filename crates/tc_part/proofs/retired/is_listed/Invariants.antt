use Rattle.std.proofs.Common.{◌≡◌, false, map, take}
use Rattle.std.specs.Arc.{arc_value}
use Rattle.tc_component.specs.Spelling.{name_of}
use Rattle.tc_part.specs.Sweeps.{has_name}
use Rattle.tc_part.proofs.retired.is_listed.Given as goal

abbrev pub invariant-loop-component : goal.invariant-loop-component
invariant-loop-component g l = has_name (name_of l.fn.head) (map arc_value (take l.component-index l.fn.list)) ≡ false
