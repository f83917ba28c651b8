use Rattle.tc_schema_model.proofs.ShallowSchemas.{shallow_stands}
use Rattle.tc_schema.proofs.laws.schemas_are_shallow.Goals as goal

pub returns : goal.returns
returns c = shallow_stands
