use Rattle.std.proofs.Common.{◌+◌, ◌*◌, ℕ, List, ◌∷◌, ◌++◌, None, length}
use Rattle.tc_model.specs.Document.{Scalar}
use Rattle.tc_model.specs.Tree.{Members}
use Rattle.tc_record.specs.Preorder.{Token, token, closed, members_preorder}
use Rattle.tc_path.specs.Trails.{IsTrailOf}
use Rattle.tc_path.proofs.TrailSteps.{MembersLeft}
use Rattle.tc_path.proofs.LeadSteps.{members_lead}
use Rattle.tc_path.proofs.leading.+leading.Given as goal

abbrev pub decreases-lead_from : goal.decreases-lead_from
decreases-lead_from l = 2 * length l.hops.now

abbrev pub decreases-lead_among : goal.decreases-lead_among
decreases-lead_among l = 2 * length l.rest.now + 1

abbrev pub invariant-lead_among-loop-tag : goal.invariant-lead_among-loop-tag
invariant-lead_among-loop-tag l = (ms : Members ℕ Scalar) (more : List (Token ℕ Scalar)) → IsTrailOf (members_preorder ms ++ token None closed ∷ more) l.fn.trail → (ns : Members ℕ Scalar) × MembersLeft (members_lead l.hop l.rest) ns ms more l.fn.trail l.trail

abbrev pub decreases-lead_among-loop-tag : goal.decreases-lead_among-loop-tag
decreases-lead_among-loop-tag l = length l.trail.tags
