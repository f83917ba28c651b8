-- What occurs in values that were gathered occurs in those that they were gathered from, and they are fewer.
use Rattle.std.proofs.Common.{◌≡◌, ◌+◌, ◌≤◌, Bool, true, false, List, [], ◌∷◌, ◌++◌, length, bytes_eq, if◌then◌else◌, map, filter, refl, ap, arith}
use Rattle.tc_model.specs.Tree.{leaf, array, object, Items, no_items, item, Members, no_members, member, items_of, members_of, listed_items, listed_members}
use Rattle.tc_model.specs.Document.{Name, ShapeTree, ScalarKind}
use Rattle.tc_model.specs.Kinds.{Kind, kind_of, is_kind}
use Rattle.tc_model.specs.TreeSize.{tree_size, items_size, members_size, trees_size, labelled_size}
use Rattle.tc_schema_model.specs.Occurrences.{field, each_item, Path, occurrences, items_occurrences, members_occurrences}
use Rattle.tc_count.specs.Gathered.{items_among, members_among}
use Rattle.tc_schema_model.specs.SchemaText.{items_in, members_in, values_of}

-- ---- what occurs

pub occurs_here : (s : ShapeTree) (t : Kind) → occurrences s [] t ≡ (if is_kind (kind_of s) t then 1 else 0)
occurs_here (leaf k) t = refl
occurs_here (array xs) t = refl
occurs_here (object ms) t = refl

items_occur-append : (xs ys : List ShapeTree) (path : Path) (t : Kind) → items_occurrences (items_of (xs ++ ys)) path t ≡ items_occurrences (items_of xs) path t + items_occurrences (items_of ys) path t
items_occur-append [] ys path t = omega arith
items_occur-append (x ∷ xs) ys path t = omega (arith, items_occur-append xs ys path t)

members_occur-append : (ms ns : List (Name × ShapeTree)) (name : Name) (path : Path) (t : Kind)
    → members_occurrences (members_of (ms ++ ns)) name path t ≡ members_occurrences (members_of ms) name path t + members_occurrences (members_of ns) name path t
members_occur-append [] ns name path t = omega arith
members_occur-append (m ∷ ms) ns name path t = omega (arith, members_occur-append ms ns name path t)

pub again_items : (xs : Items Name ScalarKind) → items_of (listed_items xs) ≡ xs
again_items no_items = refl
again_items (item s xs) = ap (item s) (again_items xs)

again_members : (ms : Members Name ScalarKind) → members_of (listed_members ms) ≡ ms
again_members no_members = refl
again_members (member name s ms) = ap (member name s) (again_members ms)

items_held_occur : (s : ShapeTree) (path : Path) (t : Kind) → items_occurrences (items_of (items_in s)) path t ≡ occurrences s (each_item ∷ path) t
items_held_occur (leaf k) path t = refl
items_held_occur (array xs) path t = ap (λ ys. items_occurrences ys path t) (again_items xs)
items_held_occur (object ms) path t = refl

members_held_occur : (s : ShapeTree) (name : Name) (path : Path) (t : Kind) → members_occurrences (members_of (members_in s)) name path t ≡ occurrences s (field name ∷ path) t
members_held_occur (leaf k) name path t = refl
members_held_occur (array xs) name path t = refl
members_held_occur (object ms) name path t = ap (λ ns. members_occurrences ns name path t) (again_members ms)

pub items_among_occur : (ss : List ShapeTree) (path : Path) (t : Kind) → items_occurrences (items_of (items_among ss)) path t ≡ items_occurrences (items_of ss) (each_item ∷ path) t
items_among_occur [] path t = refl
items_among_occur (s ∷ ss) path t = omega (arith, items_occur-append (items_in s) (items_among ss) path t, items_held_occur s path t, items_among_occur ss path t)

pub members_among_occur : (ss : List ShapeTree) (name : Name) (path : Path) (t : Kind)
    → members_occurrences (members_of (members_among ss)) name path t ≡ items_occurrences (items_of ss) (field name ∷ path) t
members_among_occur [] name path t = refl
members_among_occur (s ∷ ss) name path t =
    omega (arith, members_occur-append (members_in s) (members_among ss) name path t, members_held_occur s name path t, members_among_occur ss name path t)

pub values_of_occur : (name : Name) (ms : List (Name × ShapeTree)) (path : Path) (t : Kind) → items_occurrences (items_of (values_of name ms)) path t ≡ members_occurrences (members_of ms) name path t
values_of_occur name [] path t = refl
values_of_occur name (m ∷ ms) path t = cases (bytes_eq m.0 name) (values_of_occur name ms path t)
  where
    cases : (same : Bool) → items_occurrences (items_of (values_of name ms)) path t ≡ members_occurrences (members_of ms) name path t
        → items_occurrences (items_of (map (λ m. m.1) (if same then m ∷ filter (λ m. bytes_eq m.0 name) ms else filter (λ m. bytes_eq m.0 name) ms))) path t ≡ (if same then occurrences m.1 path t else 0) + members_occurrences (members_of ms) name path t
    cases true rest = omega (arith, rest)
    cases false rest = omega (arith, rest)

-- ---- sizes

size-append : (xs ys : List ShapeTree) → trees_size (xs ++ ys) ≡ trees_size xs + trees_size ys
size-append [] ys = omega arith
size-append (x ∷ xs) ys = omega (arith, size-append xs ys)

size-append_members : (ms ns : List (Name × ShapeTree)) → labelled_size (ms ++ ns) ≡ labelled_size ms + labelled_size ns
size-append_members [] ns = omega arith
size-append_members (m ∷ ms) ns = omega (arith, size-append_members ms ns)

size-held : (s : ShapeTree) → trees_size (items_in s) + labelled_size (members_in s) + 1 ≡ tree_size s
size-held (leaf k) = refl
size-held (array xs) = omega (arith, ap items_size (again_items xs))
size-held (object ms) = omega (arith, ap members_size (again_members ms))

-- what values hold, and they themselves
pub size-among : (ss : List ShapeTree) → trees_size (items_among ss) + labelled_size (members_among ss) + length ss ≡ trees_size ss
size-among [] = refl
size-among (s ∷ ss) =
    omega (arith, size-append (items_in s) (items_among ss), size-append_members (members_in s) (members_among ss), size-held s, size-among ss)

pub size-named : (name : Name) (ms : List (Name × ShapeTree)) → trees_size (values_of name ms) ≤ labelled_size ms
size-named name [] = omega arith
size-named name (m ∷ ms) = cases (bytes_eq m.0 name) (size-named name ms)
  where
    cases : (same : Bool) → trees_size (values_of name ms) ≤ labelled_size ms → trees_size (map (λ m. m.1) (if same then m ∷ filter (λ m. bytes_eq m.0 name) ms else filter (λ m. bytes_eq m.0 name) ms)) ≤ tree_size m.1 + labelled_size ms
    cases true rest = omega (arith, rest)
    cases false rest = omega (arith, rest)
