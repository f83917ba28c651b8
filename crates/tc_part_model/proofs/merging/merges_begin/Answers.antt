use Rattle.std.proofs.Common.{None}
use Rattle.tc_part_model.proofs.BegunParts.{merge_is_part, merge_moments, merge_unmade, merge_unmade_moments}
use Rattle.tc_part_model.proofs.FailedParts.{failed_stores}
use Rattle.tc_part_model.proofs.merging.merges_begin.Goals as goal

pub returns-clause-begun : goal.returns-clause-begun
returns-clause-begun c = λ t u p run content is two within is_merge none. merge_is_part t p is run content two within is_merge none u

pub returns-clause-moments : goal.returns-clause-moments
returns-clause-moments c = λ t p run content is two within is_merge none. merge_moments t p is run content two within is_merge none

pub returns-clause-not_made : goal.returns-clause-not_made
returns-clause-not_made c = λ t u p run content is two within is_merge none failed log sealed fails. failed_stores u p None (merge_unmade t p is run content two within is_merge none u failed log sealed fails)

pub returns-clause-not_made_as : goal.returns-clause-not_made_as
returns-clause-not_made_as c = λ t u p run content is two within is_merge none. merge_unmade t p is run content two within is_merge none u

pub returns-clause-not_made_moments : goal.returns-clause-not_made_moments
returns-clause-not_made_moments c = λ t p run content disks is two within is_merge none. merge_unmade_moments t p is run content two within is_merge none disks
