use Rattle.tc_part_model.proofs.RunInputs.{merge_named, run_can_merge, run_within}
use Rattle.tc_part_model.proofs.inputs.runs_can_merge.Goals as goal

pub returns-clause-run : goal.returns-clause-run
returns-clause-run g c = run_can_merge g.F.Frozen.content

pub returns-clause-within : goal.returns-clause-within
returns-clause-within g c = run_within g.F.Frozen.content

pub returns-clause-named : goal.returns-clause-named
returns-clause-named g c = merge_named g.F.Frozen.content
