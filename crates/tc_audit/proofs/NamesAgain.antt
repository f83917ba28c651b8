-- A document whose names became numbers has them again where the numbers mean names.
use Rattle.std.proofs.Common.{◌≡◌, List, [], unwrap_or, refl, ap}
use Rattle.tc_model.specs.Tree.{leaf, array, object, Items, no_items, item, Members, no_members, member, items_relabel, members_relabel}
use Rattle.tc_model.specs.Document.{Name, Document, Scalar, document_shape, scalar_kind}
use Rattle.tc_model.specs.Dictionary.{number as name_number}
use Rattle.tc_model.specs.KnownNames.{HasNumber, HasEach}
use Rattle.tc_model.specs.ShapeNames.{names_within, names_of_items, names_of_members}
use Rattle.tc_model.proofs.NameNumbers.{slice_get-number_of, numbered}
use Rattle.tc_model.proofs.LearnedNames.{all_of_first, all_of_rest}
use Rattle.tc_compact.specs.Compacted.{compacted}
use Rattle.tc_compact.specs.Meant.{name_at, expanded}

module _ (names : List Name) where
  pub again : (n : Name) → HasNumber names n → name_at names (name_number names n) ≡ n
  again n known = ap (λ o. unwrap_or o []) (slice_get-number_of names n (name_number names n) (numbered names n known))

  mutual
    pub tree_again : (d : Document) → HasEach names (names_within (document_shape d)) → expanded names (compacted names d) ≡ d
    tree_again (leaf s) known = refl
    tree_again (array xs) known = ap array (items_again xs known)
    tree_again (object ms) known = ap object (members_again ms known)

    items_again : (xs : Items Name Scalar) → HasEach names (names_of_items (items_relabel (λ name. name) scalar_kind xs)) → items_relabel (name_at names) (λ s. s) (items_relabel (name_number names) (λ s. s) xs) ≡ xs
    items_again no_items known = refl
    items_again (item d xs) known =
        let more = names_of_items (items_relabel (λ name. name) scalar_kind xs) in
        rw (tree_again d (all_of_first (HasNumber names) (names_within (document_shape d)) more known), items_again xs (all_of_rest (HasNumber names) (names_within (document_shape d)) more known)) refl

    members_again : (ms : Members Name Scalar) → HasEach names (names_of_members (members_relabel (λ name. name) scalar_kind ms)) → members_relabel (name_at names) (λ s. s) (members_relabel (name_number names) (λ s. s) ms) ≡ ms
    members_again no_members known = refl
    members_again (member n d ms) known =
        let more = names_of_members (members_relabel (λ name. name) scalar_kind ms) in
        rw (again n known.0, tree_again d (all_of_first (HasNumber names) (names_within (document_shape d)) more known.1), members_again ms (all_of_rest (HasNumber names) (names_within (document_shape d)) more known.1)) refl
