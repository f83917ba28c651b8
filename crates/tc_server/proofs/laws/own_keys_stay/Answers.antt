use Rattle.tc_keeper.proofs.OwnWorlds.{own_after}
use Rattle.tc_server.proofs.laws.own_keys_stay.Goals as goal

pub returns : goal.returns
returns c = own_after
