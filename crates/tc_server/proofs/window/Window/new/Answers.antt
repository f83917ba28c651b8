use Rattle.tc_server.proofs.CommandPlaces.{sound_empty}
use Rattle.tc_server.proofs.window.Window.new.Goals as goal

pub returns-clause-sound : goal.returns-clause-sound
returns-clause-sound c = sound_empty _ c.new.ensures.items c.new-2.ensures.items
