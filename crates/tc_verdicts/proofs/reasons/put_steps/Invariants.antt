use Rattle.std.proofs.Common.{◌≡◌, ◌++◌, false, drop}
use Rattle.serde_json.specs.Written.{items_text}
use Rattle.tc_schema.specs.Paths.{path_meant}
use Rattle.tc_verdicts.specs.Lines.{path_data}
use Rattle.tc_verdicts.proofs.reasons.put_steps.Given as goal

abbrev pub invariant-loop-step : goal.invariant-loop-step
invariant-loop-step l = l.out.items ++ items_text l.later (path_data (path_meant (drop l.step-index l.path))) ≡ l.fn.out.items ++ items_text false (path_data (path_meant l.path))
