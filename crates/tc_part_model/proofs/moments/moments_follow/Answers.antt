use Rattle.tc_part_model.proofs.FollowingMoments.{as_after, as_before, follow_as, run_on}
use Rattle.tc_part_model.proofs.moments.moments_follow.Goals as goal

pub returns-clause-both : goal.returns-clause-both
returns-clause-both c = follow_as

pub returns-clause-before : goal.returns-clause-before
returns-clause-before c = as_before

pub returns-clause-behind : goal.returns-clause-behind
returns-clause-behind c = as_after

pub returns-clause-no_frame : goal.returns-clause-no_frame
returns-clause-no_frame c = run_on
