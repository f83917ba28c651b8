use Rattle.tc_part_model.proofs.BetweenNames.{newer_goes_behind, older_goes_before}
use Rattle.tc_part_model.proofs.inputs.merges_go_between.Goals as goal

pub returns-clause-older : goal.returns-clause-older
returns-clause-older g c = older_goes_before g.F.Frozen.content

pub returns-clause-newer : goal.returns-clause-newer
returns-clause-newer g c = newer_goes_behind g.F.Frozen.content
