use Rattle.tc_memory.proofs.CallLemmas.{keep_first_shapes}
use Rattle.tc_memory.proofs.laws.calls_keep_first_shapes.Goals as goal

pub returns : goal.returns
returns c = keep_first_shapes
