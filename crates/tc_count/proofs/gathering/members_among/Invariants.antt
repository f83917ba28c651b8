use Rattle.std.proofs.Common.{◌≡◌, ◌++◌, map, drop}
use Rattle.tc_value.specs.ShapeMeaning.{shape_tree, shape_member}
use Rattle.tc_count.specs.Gathered.{members_among}
use Rattle.tc_count.proofs.gathering.members_among.Given as goal

abbrev pub invariant-loop-value : goal.invariant-loop-value
invariant-loop-value l = map shape_member l.members.items ++ members_among (map shape_tree (drop l.value-index l.values)) ≡ members_among (map shape_tree l.values)
