use Rattle.tc_machine.proofs.Beside.{picture_beside_recovers}
use Rattle.tc_machine.proofs.MomentPictures.{moment_recovers, event_recovers}
use Rattle.tc_machine.proofs.OneWay.{stop_recovers}
use Rattle.tc_machine.proofs.PictureLaws.{picture_recovers}
use Rattle.tc_machine.proofs.stops.stops_keep_stored.Goals as goal

pub returns-clause-picture : goal.returns-clause-picture
returns-clause-picture c = λ part s picture kept left. picture_recovers part s kept picture left

pub returns-clause-beside : goal.returns-clause-beside
returns-clause-beside c = picture_beside_recovers

pub returns-clause-moment : goal.returns-clause-moment
returns-clause-moment c = moment_recovers

pub returns-clause-event : goal.returns-clause-event
returns-clause-event c = event_recovers

pub returns-clause-opened : goal.returns-clause-opened
returns-clause-opened c = stop_recovers c.components_are_contents.ensures.apart
