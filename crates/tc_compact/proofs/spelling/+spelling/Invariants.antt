use Rattle.std.proofs.Common.{◌≡◌, ◌≤◌, ◌+◌, ◌*◌, ℕ, List, ◌∷◌, ◌++◌, None, length, option_map}
use Rattle.tc_model.specs.Document.{Scalar}
use Rattle.tc_model.specs.Tree.{Items, Members}
use Rattle.tc_record.specs.Preorder.{Token, token, closed, items_preorder, members_preorder}
use Rattle.tc_compact.specs.Outline.{IsOutlineOf, IsBehindOrdered, are_items_ordered, are_members_ordered}
use Rattle.tc_compact.proofs.spelling.+spelling.Given as goal

abbrev pub decreases-passes_value : goal.decreases-passes_value
decreases-passes_value l = 3 * length l.outline.now.tags + 1

abbrev pub decreases-passes_item : goal.decreases-passes_item
decreases-passes_item l = 3 * length l.outline.now.tags + 2

abbrev pub decreases-passes_rows : goal.decreases-passes_rows
decreases-passes_rows l = 3 * length l.outline.now.tags + 1

abbrev pub decreases-passes_items : goal.decreases-passes_items
decreases-passes_items l = 3 * length l.outline.now.tags

abbrev pub decreases-passes_members : goal.decreases-passes_members
decreases-passes_members l = 3 * length l.outline.now.tags

-- the items that are left are ordered just where all are
abbrev pub invariant-passes_items-loop-tag : goal.invariant-passes_items-loop-tag
invariant-passes_items-loop-tag l = record {
  left : (xs : Items ℕ Scalar) (more : List (Token ℕ Scalar)) → IsOutlineOf (items_preorder xs ++ token None closed ∷ more) l.fn.outline
      → (ys : Items ℕ Scalar) × (are_items_ordered l.names ys ≡ are_items_ordered l.names xs) × IsOutlineOf (items_preorder ys ++ token None closed ∷ more) l.outline;
  shorter : length l.outline.tags ≤ length l.fn.outline.tags;
}

abbrev pub decreases-passes_items-loop-tag : goal.decreases-passes_items-loop-tag
decreases-passes_items-loop-tag l = length l.outline.tags

-- the items that are left are ordered just where all behind the object are
abbrev pub invariant-passes_rows-loop-numbers : goal.invariant-passes_rows-loop-numbers
invariant-passes_rows-loop-numbers l = record {
  left : (ms : Members ℕ Scalar) (xs : Items ℕ Scalar) (more : List (Token ℕ Scalar)) → IsOutlineOf (members_preorder ms ++ token None closed ∷ (items_preorder xs ++ token None closed ∷ more)) l.fn.outline → IsBehindOrdered l.names xs more l.outline;
  shorter : length l.outline.tags ≤ length l.fn.outline.tags;
}

abbrev pub decreases-passes_rows-loop-numbers : goal.decreases-passes_rows-loop-numbers
decreases-passes_rows-loop-numbers l = length l.outline.tags

abbrev pub invariant-passes_members-loop-tag : goal.invariant-passes_members-loop-tag
invariant-passes_members-loop-tag l = record {
  left : (ms : Members ℕ Scalar) (more : List (Token ℕ Scalar)) → IsOutlineOf (members_preorder ms ++ token None closed ∷ more) l.fn.outline
      → (ns : Members ℕ Scalar) × (are_members_ordered l.names (option_map (λ n. n.now) l.last) ns ≡ are_members_ordered l.names None ms) × IsOutlineOf (members_preorder ns ++ token None closed ∷ more) l.outline;
  shorter : length l.outline.tags ≤ length l.fn.outline.tags;
}

abbrev pub decreases-passes_members-loop-tag : goal.decreases-passes_members-loop-tag
decreases-passes_members-loop-tag l = length l.outline.tags
