use Rattle.tc_schema_model.proofs.ValueBounds.{nothing_stands}
use Rattle.schema_rows.proofs.kept.Kept.none.Goals as goal

pub invariant_of-result : goal.invariant_of-result
invariant_of-result c = rw (c.new.ensures.empty, c.empty.ensures, c.new-2.ensures.items) nothing_stands
