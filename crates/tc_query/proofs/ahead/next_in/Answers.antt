use Rattle.tc_query.proofs.AheadKeys.{next_slot}
use Rattle.tc_query.specs.Walking.{least_left}
use Rattle.tc_query.proofs.ahead.next_in.Goals as goal

pub returns-clause-next : goal.returns-clause-next
returns-clause-next g c =
    next_slot c.args.component.now.index.slots c.place_behind.result (least_left c.args.last) c.key_at.result c.file_len-lawful.ensures.lawful.ascend c.place_behind.ensures.ahead c.place_behind.ensures.from c.key_at.ensures
