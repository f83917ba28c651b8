use Rattle.tc_machine.proofs.PictureLaws.{opens_as_it_is}
use Rattle.tc_machine.proofs.stops.idle_states_open_as_they_are.Goals as goal

pub returns : goal.returns
returns c = λ part s picture kept idle left. opens_as_it_is part s kept picture left idle
