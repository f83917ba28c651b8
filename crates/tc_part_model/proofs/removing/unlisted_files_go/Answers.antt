use Rattle.tc_part_model.proofs.RemovedParts.{failed_removed, removed_is_part, removed_moments, run_goes}
use Rattle.tc_part_model.proofs.removing.unlisted_files_go.Goals as goal

pub returns-clause-run : goal.returns-clause-run
returns-clause-run c = run_goes

pub returns-clause-part : goal.returns-clause-part
returns-clause-part c = λ t u p names is unlisted. removed_is_part t p names unlisted u is

pub returns-clause-moments : goal.returns-clause-moments
returns-clause-moments c = λ t p names disks is unlisted. removed_moments t p names unlisted disks is

pub returns-clause-failed : goal.returns-clause-failed
returns-clause-failed c = λ t u p frame names has unlisted. failed_removed t p names unlisted u frame has
