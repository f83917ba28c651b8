-- Trees that are alike have one shape with names.
use Rattle.std.proofs.Common.{◌≡◌, ◌∙◌, ℕ, List, refl, sym, ap}
use Rattle.tc_model.specs.Tree.{leaf, array, object, Items, no_items, item, Members, no_members, member, relabel, items_relabel, members_relabel}
use Rattle.tc_model.specs.Document.{Name, Scalar, document_shape, scalar_kind}
use Rattle.tc_record.specs.Preorder.{tokens_of}
use Rattle.tc_record.specs.Record.{NumberedTree}
use Rattle.tc_compact.specs.Meant.{name_at, expanded}
use Rattle.tc_alike.specs.Alike.{AreAlike}
use Rattle.tc_alike.proofs.SameOutlines.{outline, same_outline}

module _ (names : List Name) where
  mutual
    shape_named : (n : NumberedTree) → document_shape (expanded names n) ≡ relabel (name_at names) (λ k. k) (outline n)
    shape_named (leaf s) = refl
    shape_named (array xs) = ap array (items_named xs)
    shape_named (object ms) = ap object (members_named ms)

    items_named : (xs : Items ℕ Scalar) → items_relabel (λ n. n) scalar_kind (items_relabel (name_at names) (λ s. s) xs) ≡ items_relabel (name_at names) (λ k. k) (items_relabel (λ k. k) scalar_kind xs)
    items_named no_items = refl
    items_named (item t ts) = rw (shape_named t, items_named ts) refl

    members_named : (ms : Members ℕ Scalar) → members_relabel (λ n. n) scalar_kind (members_relabel (name_at names) (λ s. s) ms) ≡ members_relabel (name_at names) (λ k. k) (members_relabel (λ k. k) scalar_kind ms)
    members_named no_members = refl
    members_named (member k t ms) = rw (shape_named t, members_named ms) refl

  pub alike_named : (n m : NumberedTree) → AreAlike (tokens_of n) (tokens_of m) → document_shape (expanded names n) ≡ document_shape (expanded names m)
  alike_named n m alike = shape_named n ∙ ap (relabel (name_at names) (λ k. k)) (same_outline n m alike) ∙ sym (shape_named m)
