use Rattle.std.proofs.Common.{◌≤◌, ◌+◌, ◌*◌, ℕ, List, ◌∷◌, ◌++◌, None, length}
use Rattle.tc_model.specs.Document.{Scalar}
use Rattle.tc_model.specs.Tree.{Items, Members}
use Rattle.tc_record.specs.Preorder.{Token, token, closed, items_preorder, members_preorder}
use Rattle.tc_path.specs.Trails.{IsTrailOf}
use Rattle.tc_path.proofs.TrailSteps.{ItemsLeft, MembersLeft, members_passed}
use Rattle.tc_path.proofs.trail.+passing.Given as goal

abbrev pub decreases-pass_value : goal.decreases-pass_value
decreases-pass_value l = 2 * length l.trail.now.tags + 1

abbrev pub decreases-pass_items : goal.decreases-pass_items
decreases-pass_items l = 2 * length l.trail.now.tags

abbrev pub decreases-pass_members : goal.decreases-pass_members
decreases-pass_members l = 2 * length l.trail.now.tags

abbrev pub invariant-pass_items-loop-tag : goal.invariant-pass_items-loop-tag
invariant-pass_items-loop-tag l = record {
  left : (xs : Items ℕ Scalar) (more : List (Token ℕ Scalar)) → IsTrailOf (items_preorder xs ++ token None closed ∷ more) l.fn.trail → (ys : Items ℕ Scalar) × ItemsLeft ys xs more l.fn.trail l.trail;
  shorter : length l.trail.tags ≤ length l.fn.trail.tags;
}

abbrev pub decreases-pass_items-loop-tag : goal.decreases-pass_items-loop-tag
decreases-pass_items-loop-tag l = length l.trail.tags

abbrev pub invariant-pass_members-loop-tag : goal.invariant-pass_members-loop-tag
invariant-pass_members-loop-tag l = record {
  left : (ms : Members ℕ Scalar) (more : List (Token ℕ Scalar)) → IsTrailOf (members_preorder ms ++ token None closed ∷ more) l.fn.trail → (ns : Members ℕ Scalar) × MembersLeft members_passed ns ms more l.fn.trail l.trail;
  shorter : length l.trail.tags ≤ length l.fn.trail.tags;
}

abbrev pub decreases-pass_members-loop-tag : goal.decreases-pass_members-loop-tag
decreases-pass_members-loop-tag l = length l.trail.tags
