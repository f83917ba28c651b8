use Rattle.std.proofs.Common.{arith}
use Rattle.tc_value.specs.ShapeMeaning.{shape_tree}
use Rattle.tc_schema_model.proofs.ValueBounds.{values_at-size}
use Rattle.tc_model.proofs.NamesOfShapes.{room_within}
use Rattle.schema_rows.proofs.kept.bound_with.Goals as goal

pub returns-clause-values : goal.returns-clause-values
returns-clause-values c = λ path. omega (arith, values_at-size (shape_tree c.args.shape.now) path, c.in_ok-size.ensures.size)

pub returns-clause-room : goal.returns-clause-room
returns-clause-room c = omega (arith, room_within c.args.names.now (shape_tree c.args.shape.now), c.in_ok-size.ensures.size, c.len.ensures.count, c.in_ok-_numbers.ensures)
