-- A list of shapes, from a place on.
use Rattle.std.proofs.Common.{◌≡◌, ℕ, ◌+◌, ◌<◌, ◌≤◌, List, ◌∷◌, length, get_or, map, drop, sym, ap, ◌∙◌}
use Rattle.std.proofs.lemmas.List.{drop_more}
use Rattle.tc_model.specs.Tree.{item, member, items_of, members_of}
use Rattle.tc_value.specs.ShapeMeaning.{shape_tree, shape_member}
use Rattle.tc_model.specs.TreeSize.{tree_size, trees_size, labelled_size}
use Rattle.tc_model.proofs.TreeLists.{size_at, labelled_size_at}
use Rattle.tc_value.specs.declared.shape_tree.Shape.{Shape}
use Rattle.tc_value.specs.declared.shape_tree.ShapeMember.{ShapeMember}

-- the one there, and the rest
pub items_from : (xs : List Shape) (i : ℕ) (x : Shape) → i < length xs → x ≡ get_or xs i x → items_of (map shape_tree (drop i xs)) ≡ item (shape_tree x) (items_of (map shape_tree (drop (i + 1) xs)))
items_from xs i x inside is = ap (λ ys. items_of (map shape_tree ys)) (drop_more xs i x inside ∙ ap (λ y. y ∷ drop (i + 1) xs) (sym is))

pub members_from : (ms : List ShapeMember) (i : ℕ) (m : ShapeMember) → i < length ms → m ≡ get_or ms i m → members_of (map shape_member (drop i ms)) ≡ member m.name (shape_tree m.value) (members_of (map shape_member (drop (i + 1) ms)))
members_from ms i m inside is = ap (λ ns. members_of (map shape_member ns)) (drop_more ms i m inside ∙ ap (λ n. n ∷ drop (i + 1) ms) (sym is))

-- one of them has no more values than all
pub item_size : (xs : List Shape) (i : ℕ) (x : Shape) → i < length xs → x ≡ get_or xs i x → tree_size (shape_tree x) ≤ trees_size (map shape_tree xs)
item_size xs i x inside is = size_at shape_tree xs i x inside is

pub member_size : (ms : List ShapeMember) (i : ℕ) (m : ShapeMember) → i < length ms → m ≡ get_or ms i m → tree_size (shape_tree m.value) ≤ labelled_size (map shape_member ms)
member_size ms i m inside is = labelled_size_at shape_member ms i m inside is
