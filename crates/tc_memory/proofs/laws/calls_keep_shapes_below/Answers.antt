use Rattle.tc_memory.proofs.CallLemmas.{keep_shapes_below}
use Rattle.tc_memory.proofs.laws.calls_keep_shapes_below.Goals as goal

pub returns : goal.returns
returns c = keep_shapes_below
