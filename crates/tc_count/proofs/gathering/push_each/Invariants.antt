use Rattle.std.proofs.Common.{◌≡◌, ◌++◌, map, take}
use Rattle.tc_value.specs.ShapeMeaning.{shape_member}
use Rattle.tc_count.proofs.gathering.push_each.Given as goal

abbrev pub invariant-loop-member : goal.invariant-loop-member
invariant-loop-member l = map shape_member l.all.items ≡ map shape_member l.initial.all.items ++ map shape_member (take l.member-index l.members)
