use Rattle.std.proofs.Common.{◌≡◌, ◌++◌, map, drop}
use Rattle.tc_value.specs.ShapeMeaning.{shape_tree, shape_member}
use Rattle.tc_schema_model.specs.SchemaText.{values_of}
use Rattle.tc_count.proofs.gathering.values_named.Given as goal

abbrev pub invariant-loop-member : goal.invariant-loop-member
invariant-loop-member l = map shape_tree l.values.items ++ values_of l.name (map shape_member (drop l.member-index l.members)) ≡ values_of l.name (map shape_member l.members)
