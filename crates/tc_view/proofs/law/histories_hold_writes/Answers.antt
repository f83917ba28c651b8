use Rattle.tc_view.proofs.HistoryLaws.{opened, wrote, placed, seen}
use Rattle.tc_view.proofs.law.histories_hold_writes.Goals as goal

pub returns-clause-opened : goal.returns-clause-opened
returns-clause-opened g c = opened g.F.Frozen.content

pub returns-clause-wrote : goal.returns-clause-wrote
returns-clause-wrote g c = wrote g.F.Frozen.content

pub returns-clause-placed : goal.returns-clause-placed
returns-clause-placed g c = placed g.F.Frozen.content

pub returns-clause-seen : goal.returns-clause-seen
returns-clause-seen g c = seen g.F.Frozen.content
