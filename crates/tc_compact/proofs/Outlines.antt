-- The outline of a record with numbers, and what it tells of the tree.
use Rattle.std.proofs.Common.{◌≡◌, ◌∙◌, ℕ, true, List, Option, None, Some, map, refl, ap}
use Rattle.std.proofs.lemmas.Bool.{and_parts}
use Rattle.tc_model.specs.Document.{Name, Scalar}
use Rattle.tc_model.specs.Tree.{leaf, array, object, Items, no_items, item, Members, no_members, member, items_relabel, members_relabel, listed_members}
use Rattle.tc_record.specs.Borrowed.{numbered_tokens}
use Rattle.tc_record.specs.Preorder.{Token, tokens_of}
use Rattle.tc_record.specs.Record.{tags, NumberedTree}
use Rattle.tc_record.specs.Walk.{Key, number, is_above}
use Rattle.tc_record.proofs.Keyed.{preorder-relabel, tags-retoken}
use Rattle.tc_compact.specs.Meant.{name_at, expanded, ascend_behind, IsOrdered, AreItemsOrdered, AreMembersOrdered}
use Rattle.tc_compact.specs.Outline.{is_ordered, are_items_ordered, are_members_ordered}
use Rattle.tc_compact.proofs.Orders.{follows-from_test, test-from_follows}

-- the tags of a record are those of its tree
pub tree_tags : (n : NumberedTree) (tokens : List (Token Key Scalar)) → tokens ≡ numbered_tokens n → tags tokens ≡ tags (tokens_of n)
tree_tags n tokens same = ap tags (same ∙ preorder-relabel number n None) ∙ tags-retoken number (tokens_of n)

-- ---- the test is exact

-- the names of members, where numbers mean names
abbrev member_names : List Name → Members ℕ Scalar → List Name
member_names names ms = map (λ m. m.0) (listed_members (members_relabel (name_at names) (λ s. s) ms))

module _ (names : List Name) where
  mutual
    pub ordered-from_test : (t : NumberedTree) → is_ordered names t ≡ true → IsOrdered (expanded names t)
    ordered-from_test (leaf s) passes = tt
    ordered-from_test (array xs) passes = items-from_test xs passes
    ordered-from_test (object ms) passes = let all = members-from_test None ms passes in (follows-from_test None (member_names names ms) all.0, all.1)

    items-from_test : (xs : Items ℕ Scalar) → are_items_ordered names xs ≡ true → AreItemsOrdered (items_relabel (name_at names) (λ s. s) xs)
    items-from_test no_items passes = tt
    items-from_test (item t ts) passes =
        let parts = and_parts (is_ordered names t) (are_items_ordered names ts) passes in
        (ordered-from_test t parts.0, items-from_test ts parts.1)

    members-from_test : (last : Option Name) (ms : Members ℕ Scalar) → are_members_ordered names last ms ≡ true → (ascend_behind last (member_names names ms) ≡ true) × AreMembersOrdered (members_relabel (name_at names) (λ s. s) ms)
    members-from_test last no_members passes = (refl, tt)
    members-from_test last (member k t ms) passes =
        let name = name_at names k in
        let parts = and_parts (is_above last name) _ passes in
        let inner = and_parts (is_ordered names t) (are_members_ordered names (Some name) ms) parts.1 in
        let further = members-from_test (Some name) ms inner.1 in
        (rw (parts.0, further.0) refl, (ordered-from_test t inner.0, further.1))

  mutual
    pub test-from_ordered : (t : NumberedTree) → IsOrdered (expanded names t) → is_ordered names t ≡ true
    test-from_ordered (leaf s) ordered = refl
    test-from_ordered (array xs) ordered = test-from_items xs ordered
    test-from_ordered (object ms) ordered = test-from_members None ms (test-from_follows None (member_names names ms) ordered.0) ordered.1

    test-from_items : (xs : Items ℕ Scalar) → AreItemsOrdered (items_relabel (name_at names) (λ s. s) xs) → are_items_ordered names xs ≡ true
    test-from_items no_items ordered = refl
    test-from_items (item t ts) ordered = rw (test-from_ordered t ordered.0, test-from_items ts ordered.1) refl

    test-from_members : (last : Option Name) (ms : Members ℕ Scalar) → ascend_behind last (member_names names ms) ≡ true → AreMembersOrdered (members_relabel (name_at names) (λ s. s) ms) → are_members_ordered names last ms ≡ true
    test-from_members last no_members ascend ordered = refl
    test-from_members last (member k t ms) ascend ordered =
        let name = name_at names k in
        let parts = and_parts (is_above last name) (ascend_behind (Some name) (member_names names ms)) ascend in
        rw (parts.0, test-from_ordered t ordered.0, test-from_members (Some name) ms parts.1 ordered.1) refl
