use Rattle.std.proofs.Common.{◌≡◌, ◌+◌, ◌-◌, ◌++◌}
use Rattle.tc_open.specs.FlushedLogs.{log_names}
use Rattle.tc_open.proofs.log_inputs.with_logs.Given as goal

abbrev pub invariant-loop-generation : goal.invariant-loop-generation
invariant-loop-generation l = (l.names.items ++ log_names l.generation (l.fn.head.to + 1 - l.generation)) ≡ (l.fn.files.items ++ log_names l.fn.head.from (l.fn.head.to + 1 - l.fn.head.from))
