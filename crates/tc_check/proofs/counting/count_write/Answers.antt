use Rattle.tc_check.proofs.DocumentCounts.{one_counts}
use Rattle.tc_check.proofs.counting.count_write.Goals as goal

pub returns : goal.returns
returns g c =
    one_counts c.args.list.now c.args.write.now c.args.counting.now _ c.change_of-key.result.0 c.is_stored-stored.result c.change_of-key.result.1 c.change_of-key.ensures c.is_stored-stored.ensures
    c.in_ok-documents.ensures c.in_ok-insert.ensures.entries
