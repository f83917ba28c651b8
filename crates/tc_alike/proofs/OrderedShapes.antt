-- The names in the shape of a document.
use Rattle.std.proofs.Common.{◌≡◌, List, ◌∷◌, map, refl, sym, ap, subst}
use Rattle.std.specs.List.Sorted.{IsStrictlySortedBy}
use Rattle.tc_model.specs.Tree.{leaf, array, object, Items, no_items, item, Members, no_members, member, items_relabel, members_relabel, listed_members}
use Rattle.tc_model.specs.Document.{Name, Document, Scalar, scalar_kind, name_cmp, document_shape, IsDocument, IsScalar, AreItemsOf, AreMembersOf}
use Rattle.tc_compact.specs.Meant.{IsOrdered, AreItemsOrdered, AreMembersOrdered}

-- the names of members, in their order
abbrev pub listed_names : {S : Type 0} → Members Name S → List Name
listed_names ms = map (λ m. m.0) (listed_members ms)

pub same_names : (ms : Members Name Scalar) → listed_names (members_relabel (λ n. n) scalar_kind ms) ≡ listed_names ms
same_names no_members = refl
same_names (member n t ms) = ap (λ ns. n ∷ ns) (same_names ms)

-- those of a document ascend in its shape too
mutual
  pub shape_ordered : (d : Document) → IsDocument d → IsOrdered (document_shape d)
  shape_ordered (leaf s) is = tt
  shape_ordered (array xs) is = shape_items xs is
  shape_ordered (object ms) is = (subst (IsStrictlySortedBy name_cmp) (sym (same_names ms)) is.0, shape_members ms is.1)

  shape_items : (xs : Items Name Scalar) → AreItemsOf IsScalar xs → AreItemsOrdered (items_relabel (λ n. n) scalar_kind xs)
  shape_items no_items is = tt
  shape_items (item t ts) is = (shape_ordered t is.0, shape_items ts is.1)

  shape_members : (ms : Members Name Scalar) → AreMembersOf IsScalar ms → AreMembersOrdered (members_relabel (λ n. n) scalar_kind ms)
  shape_members no_members is = tt
  shape_members (member n t ms) is = (shape_ordered t is.1, shape_members ms is.2)
