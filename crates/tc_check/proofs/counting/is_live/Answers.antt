use Rattle.std.proofs.Common.{ap, is_some, sym}
use Rattle.tc_check.proofs.counting.is_live.Goals as goal

pub returns-in-Absent : goal.returns-in-Absent
returns-in-Absent g c = λ part cs is_list shows. sym (ap is_some (c.in-Absent.ensures.live part cs is_list shows))

pub returns-in-At : goal.returns-in-At
returns-in-At g c = λ part cs is_list shows. sym (ap is_some (c.in-At.ensures.live part cs is_list shows).4)
