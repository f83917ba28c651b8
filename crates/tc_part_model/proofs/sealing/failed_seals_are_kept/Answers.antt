use Rattle.std.proofs.Common.{None}
use Rattle.tc_part_model.proofs.FailedParts.{failed_stores}
use Rattle.tc_part_model.proofs.SealedParts.{seal_broken, seal_unmade}
use Rattle.tc_part_model.proofs.sealing.failed_seals_are_kept.Goals as goal

pub returns-clause-not_made : goal.returns-clause-not_made
returns-clause-not_made c = λ t u p is none nothing failed log sealed fails. failed_stores u p None (seal_unmade t p is none nothing u failed log sealed fails)

pub returns-clause-not_made_as : goal.returns-clause-not_made_as
returns-clause-not_made_as c = λ t u p is none nothing. seal_unmade t p is none nothing u

pub returns-clause-broken : goal.returns-clause-broken
returns-clause-broken c = λ t u p device broken is none nothing fresh head creates failed log sealed disks. failed_stores u p None (seal_broken t p is none nothing device fresh head u broken creates failed log sealed disks)

pub returns-clause-broken_as : goal.returns-clause-broken_as
returns-clause-broken_as c = λ t u p device broken is none nothing fresh head. seal_broken t p is none nothing device fresh head u broken
