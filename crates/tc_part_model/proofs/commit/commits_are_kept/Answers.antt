use Rattle.std.proofs.Common.{Some}
use Rattle.tc_part_model.proofs.FailedParts.{failed_stores}
use Rattle.tc_part_model.proofs.ToldCommits.{commit_is_part, commit_moments, commit_no_moments, commit_failed, commit_not_begun, commit_nothing, commit_plain}
use Rattle.tc_part_model.proofs.ViewLaws.{commit_adds}
use Rattle.tc_part_model.proofs.commit.commits_are_kept.Goals as goal

pub returns-clause-committed : goal.returns-clause-committed
returns-clause-committed c = λ t u p is. commit_is_part t p is u

pub returns-clause-stored : goal.returns-clause-stored
returns-clause-stored c = commit_adds

pub returns-clause-plain : goal.returns-clause-plain
returns-clause-plain c = commit_plain

pub returns-clause-moments : goal.returns-clause-moments
returns-clause-moments c = λ t p log is. commit_moments t p is log

pub returns-clause-no_moments : goal.returns-clause-no_moments
returns-clause-no_moments c = commit_no_moments

pub returns-clause-failed : goal.returns-clause-failed
returns-clause-failed c = λ t u p is failed disks sealed appends. failed_stores u p (Some p.staged) (commit_failed t p is u failed disks sealed appends)

pub returns-clause-failed_as : goal.returns-clause-failed_as
returns-clause-failed_as c = λ t u p is. commit_failed t p is u

pub returns-clause-not_begun : goal.returns-clause-not_begun
returns-clause-not_begun c = λ t u p is failed disks sealed log. failed_stores u p (Some p.staged) (commit_not_begun t p is u failed disks sealed log)

pub returns-clause-not_begun_as : goal.returns-clause-not_begun_as
returns-clause-not_begun_as c = λ t u p is. commit_not_begun t p is u

pub returns-clause-nothing : goal.returns-clause-nothing
returns-clause-nothing c = commit_nothing
