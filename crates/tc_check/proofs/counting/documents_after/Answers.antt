use Rattle.std.proofs.Common.{◌∙◌, [], ap}
use Rattle.tc_lsm_model.specs.Lists.{live}
use Rattle.tc_machine.specs.Logs.{all_writes}
use Rattle.tc_check.specs.Counting.{writes_in}
use Rattle.tc_check.proofs.DocumentCounts.{none_written, writes_kept}
use Rattle.tc_check.proofs.counting.documents_after.Goals as goal

pub returns : goal.returns
returns g c = λ part cs kept is_list shows live_is same.
    (c.in_ok-count_logs.ensures part cs [] (all_writes kept) is_list shows (ap writes_in same ∙ writes_kept kept) (none_written (live cs) _ live_is c.new.ensures.empty)).documents_are
