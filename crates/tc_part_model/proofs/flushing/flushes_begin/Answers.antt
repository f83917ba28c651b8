use Rattle.std.proofs.Common.{None}
use Rattle.tc_part_model.proofs.BegunParts.{flush_is_part, flush_moments, flush_unmade, flush_unmade_moments}
use Rattle.tc_part_model.proofs.FailedParts.{failed_stores}
use Rattle.tc_part_model.proofs.flushing.flushes_begin.Goals as goal

pub returns-clause-begun : goal.returns-clause-begun
returns-clause-begun c = λ t u p table is some none. flush_is_part t p is table some none u

pub returns-clause-moments : goal.returns-clause-moments
returns-clause-moments c = λ t p table is. flush_moments t p is table

pub returns-clause-not_made : goal.returns-clause-not_made
returns-clause-not_made c = λ t u p table is some none failed log sealed fails. failed_stores u p None (flush_unmade t p is table some none u failed log sealed fails)

pub returns-clause-not_made_as : goal.returns-clause-not_made_as
returns-clause-not_made_as c = λ t u p table is some none. flush_unmade t p is table some none u

pub returns-clause-not_made_moments : goal.returns-clause-not_made_moments
returns-clause-not_made_moments c = λ t p table disks is some none. flush_unmade_moments t p is table some none disks
