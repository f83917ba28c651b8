use Rattle.tc_memory.proofs.CallLemmas.{change_one_key}
use Rattle.tc_memory.proofs.laws.calls_change_one_key.Goals as goal

pub returns : goal.returns
returns c = change_one_key
