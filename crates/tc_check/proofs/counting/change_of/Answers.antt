use Rattle.std.proofs.Common.{◌∙◌, sym}
use Rattle.tc_check.proofs.DocumentCounts.{delete_is, upsert_is}
use Rattle.tc_check.proofs.counting.change_of.Goals as goal

pub returns-in-Upsert : goal.returns-in-Upsert
returns-in-Upsert c = λ w same. upsert_is _ _ w (sym c.in-Upsert.is ∙ same)

pub returns-in-Delete : goal.returns-in-Delete
returns-in-Delete c = λ w same. delete_is _ w (sym c.in-Delete.is ∙ same)
