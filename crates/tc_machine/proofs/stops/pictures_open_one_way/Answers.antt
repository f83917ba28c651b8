use Rattle.tc_machine.proofs.OneWay.{opens_one}
use Rattle.tc_machine.proofs.stops.pictures_open_one_way.Goals as goal

pub returns-clause-components : goal.returns-clause-components
returns-clause-components c = λ part picture cs ds logs others one two. (opens_one c.components_are_contents.ensures.apart part picture cs ds logs others one two).0

pub returns-clause-logs : goal.returns-clause-logs
returns-clause-logs c = λ part picture cs ds logs others one two. (opens_one c.components_are_contents.ensures.apart part picture cs ds logs others one two).1
