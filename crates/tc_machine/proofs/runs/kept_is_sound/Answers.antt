use Rattle.tc_machine.proofs.Sounds.{kept_is_sound}
use Rattle.tc_machine.proofs.runs.kept_is_sound.Goals as goal

pub returns : goal.returns
returns c = kept_is_sound
