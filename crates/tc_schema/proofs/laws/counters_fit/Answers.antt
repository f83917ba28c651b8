use Rattle.tc_schema_model.proofs.ValueBounds.{counters_fit-sizes}
use Rattle.tc_schema.proofs.laws.counters_fit.Goals as goal

pub returns : goal.returns
returns c = counters_fit-sizes
