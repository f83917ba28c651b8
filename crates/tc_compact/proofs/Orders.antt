-- Names that ascend, and trees whose objects have such names.
use Rattle.std.proofs.Common.{◌≡◌, true, List, [], ◌∷◌, Option, Some, map, refl, ap, subst}
use Rattle.std.specs.List.{AllByRecursion}
use Rattle.std.specs.List.Sorted.{IsStrictlySortedBy}
use Rattle.std.proofs.lemmas.Bool.{and_parts}
use Rattle.tc_model.specs.Tree.{Tree, leaf, array, object, Items, no_items, item, Members, no_members, member, items_of, members_of, items_relabel, members_relabel, listed_members}
use Rattle.tc_model.specs.Document.{Name, Document, Scalar, scalar_kind, name_cmp, document_shape, IsScalar, IsDocument, AreItemsOf, AreMembersOf}
use Rattle.tc_value.specs.Meaning.{member_of}
use Rattle.tc_value.specs.ShapeMeaning.{shape_member}
use Rattle.tc_value.specs.declared.document.Member.{Member}
use Rattle.tc_value.specs.declared.shape_tree.ShapeMember.{ShapeMember}
use Rattle.tc_record.specs.Walk.{is_above}
use Rattle.tc_record.proofs.Fitting.{Follows, above_next, follows_next}
use Rattle.tc_record.proofs.Documents.{follows_before, follows_nil}
use Rattle.tc_compact.specs.Meant.{ascend_behind, IsOrdered, AreItemsOrdered, AreMembersOrdered}

pub follows-from_test : (last : Option Name) (ns : List Name) → ascend_behind last ns ≡ true → Follows last ns
follows-from_test last [] passes = follows_nil last
follows-from_test last (n ∷ ns) passes =
    let parts = and_parts (is_above last n) (ascend_behind (Some n) ns) passes in
    follows_before last n ns parts.0 (follows-from_test (Some n) ns parts.1)

pub test-from_follows : (last : Option Name) (ns : List Name) → Follows last ns → ascend_behind last ns ≡ true
test-from_follows last [] follows = refl
test-from_follows last (n ∷ ns) follows = rw (above_next last n ns follows, test-from_follows (Some n) ns (follows_next last n ns follows)) refl

-- the names of members, and of their shapes
pub member_names : (ms : List Member) → map (λ m. m.0) (map member_of ms) ≡ map (λ m. m.name) ms
member_names [] = refl
member_names (m ∷ ms) = ap (λ ns. m.name ∷ ns) (member_names ms)

pub shape_names : (ms : List ShapeMember) → map (λ m. m.0) (map shape_member ms) ≡ map (λ m. m.name) ms
shape_names [] = refl
shape_names (m ∷ ms) = ap (λ ns. m.name ∷ ns) (shape_names ms)

-- a tree is ordered where what it holds is
pub items_ordered : {S : Type 0} (ts : List (Tree Name S)) → AllByRecursion IsOrdered ts → AreItemsOrdered (items_of ts)
items_ordered [] each = tt
items_ordered (t ∷ ts) each = (each.0, items_ordered ts each.1)

pub members_ordered : {S : Type 0} (ms : List (Name × Tree Name S)) → AllByRecursion (λ m. IsOrdered m.1) ms → AreMembersOrdered (members_of ms)
members_ordered [] each = tt
members_ordered (m ∷ ms) each = (each.0, members_ordered ms each.1)

-- a document is ordered where its shape is
listed_names : (ms : Members Name Scalar) → map (λ m. m.0) (listed_members (members_relabel (λ n. n) scalar_kind ms)) ≡ map (λ m. m.0) (listed_members ms)
listed_names no_members = refl
listed_names (member n t ms) = ap (λ ns. n ∷ ns) (listed_names ms)

mutual
  pub ordered_by_shape : (d : Document) → IsOrdered (document_shape d) → IsOrdered d
  ordered_by_shape (leaf s) ordered = tt
  ordered_by_shape (array xs) ordered = items_by_shape xs ordered
  ordered_by_shape (object ms) ordered = (subst (IsStrictlySortedBy name_cmp) (listed_names ms) ordered.0, members_by_shape ms ordered.1)

  items_by_shape : (xs : Items Name Scalar) → AreItemsOrdered (items_relabel (λ n. n) scalar_kind xs) → AreItemsOrdered xs
  items_by_shape no_items ordered = tt
  items_by_shape (item t ts) ordered = (ordered_by_shape t ordered.0, items_by_shape ts ordered.1)

  members_by_shape : (ms : Members Name Scalar) → AreMembersOrdered (members_relabel (λ n. n) scalar_kind ms) → AreMembersOrdered ms
  members_by_shape no_members ordered = tt
  members_by_shape (member n t ms) ordered = (ordered_by_shape t ordered.0, members_by_shape ms ordered.1)

-- a document is ordered
mutual
  pub document_ordered : (d : Document) → IsDocument d → IsOrdered d
  document_ordered (leaf s) is = tt
  document_ordered (array xs) is = document_items xs is
  document_ordered (object ms) is = (is.0, document_members ms is.1)

  document_items : (xs : Items Name Scalar) → AreItemsOf IsScalar xs → AreItemsOrdered xs
  document_items no_items is = tt
  document_items (item t ts) is = (document_ordered t is.0, document_items ts is.1)

  document_members : (ms : Members Name Scalar) → AreMembersOf IsScalar ms → AreMembersOrdered ms
  document_members no_members is = tt
  document_members (member n t ms) is = (document_ordered t is.1, document_members ms is.2)
