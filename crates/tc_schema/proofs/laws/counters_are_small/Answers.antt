use Rattle.tc_schema_model.proofs.SmallCounters.{small_from_paths, small_at_paths}
use Rattle.tc_schema.proofs.laws.counters_are_small.Goals as goal

pub returns : goal.returns
returns c = λ names d distinct canonical. (λ small. small_at_paths names d small, λ fits. small_from_paths names distinct d canonical fits)
