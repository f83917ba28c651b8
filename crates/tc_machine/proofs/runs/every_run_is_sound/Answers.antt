use Rattle.tc_machine.proofs.Sounds.{every_run}
use Rattle.tc_machine.proofs.runs.every_run_is_sound.Goals as goal

pub returns : goal.returns
returns c = every_run
