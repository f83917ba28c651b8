-- Trees made of lists of items and members: the lists that they have again, and their shapes.
use Rattle.std.proofs.Common.{◌≡◌, ◌∙◌, ◌<◌, ◌≤◌, ℕ, zero, suc, ap, refl, subst, sym, List, [], ◌∷◌, get_or, length, map, arith}
use Rattle.std.specs.List.Sorted.{IsStrictlySortedBy}
use Rattle.tc_model.specs.Tree.{Tree, array, object, item, member, items_of, members_of, items_relabel, members_relabel, listed_items, listed_members}
use Rattle.tc_model.specs.TreeSize.{tree_size, trees_size, labelled_size}
use Rattle.tc_model.specs.Document.{Name, Document, scalar_kind, IsAscending, IsScalar, IsDocument, AreMembersOf, document_shape, member_shape}

-- what an array holds
abbrev items_in : {L S : Type 0} → Tree L S → List (Tree L S)
items_in (array xs) = listed_items xs
items_in _ = []

-- what an object holds
abbrev members_in : {L S : Type 0} → Tree L S → List (L × Tree L S)
members_in (object ms) = listed_members ms
members_in _ = []

listed_items-items_of : {L S : Type 0} (xs : List (Tree L S)) → listed_items (items_of xs) ≡ xs
listed_items-items_of [] = refl
listed_items-items_of (t ∷ ts) = ap (λ ys. t ∷ ys) (listed_items-items_of ts)

pub listed_members-members_of : {L S : Type 0} (ms : List (L × Tree L S)) → listed_members (members_of ms) ≡ ms
listed_members-members_of [] = refl
listed_members-members_of (m ∷ ms) = ap (λ ys. m ∷ ys) (listed_members-members_of ms)

-- equal arrays have equal items
pub same_array : {L S : Type 0} (xs ys : List (Tree L S)) → array (items_of xs) ≡ array (items_of ys) → xs ≡ ys
same_array xs ys e = sym (listed_items-items_of xs) ∙ (ap items_in e ∙ listed_items-items_of ys)

-- equal objects have equal members
pub same_object : {L S : Type 0} (xs ys : List (L × Tree L S)) → object (members_of xs) ≡ object (members_of ys) → xs ≡ ys
same_object xs ys e = sym (listed_members-members_of xs) ∙ (ap members_in e ∙ listed_members-members_of ys)

-- an object is a document where its names ascend and its members are documents
pub lawful_object : (ms : List (Name × Document)) → IsAscending ms → AreMembersOf IsScalar (members_of ms) → IsDocument (object (members_of ms))
lawful_object ms ascending each = (rw (listed_members-members_of ms) ascending, each)

items_of-shapes : (xs : List Document) → items_of (map document_shape xs) ≡ items_relabel (λ name. name) scalar_kind (items_of xs)
items_of-shapes [] = refl
items_of-shapes (t ∷ ts) = ap (item (document_shape t)) (items_of-shapes ts)

members_of-shapes : (ms : List (Name × Document)) → members_of (map member_shape ms) ≡ members_relabel (λ name. name) scalar_kind (members_of ms)
members_of-shapes [] = refl
members_of-shapes (m ∷ ms) = ap (member m.0 (document_shape m.1)) (members_of-shapes ms)

-- the shape of an array has the shapes of its items
pub array_shape : (xs : List Document) → array (items_of (map document_shape xs)) ≡ document_shape (array (items_of xs))
array_shape xs = ap array (items_of-shapes xs)

-- the shape of an object has the shapes of its members
pub object_shape : (ms : List (Name × Document)) → object (members_of (map member_shape ms)) ≡ document_shape (object (members_of ms))
object_shape ms = ap object (members_of-shapes ms)

names-shapes : (ms : List (Name × Document)) → map (λ m. m.0) (map member_shape ms) ≡ map (λ m. m.0) ms
names-shapes [] = refl
names-shapes (m ∷ ms) = ap (λ names. m.0 ∷ names) (names-shapes ms)

-- shapes keep the order of names
pub ascending_shapes : (ms : List (Name × Document)) → IsAscending ms → IsAscending (map member_shape ms)
ascending_shapes ms ascending = rw (names-shapes ms) ascending

-- one member is in order
pub ascending_single : (m : Name × Document) → IsAscending (m ∷ [])
unfolding IsStrictlySortedBy
ascending_single m = (tt, tt)

-- ---- a tree of a list has no more values than the list

size_at_place : {A L S : Type 0} (f : A → Tree L S) (xs : List A) (i : ℕ) (x : A) → i < length xs → tree_size (f (get_or xs i x)) ≤ trees_size (map f xs)
size_at_place f [] i x inside = absurd (omega arith)
size_at_place f (y ∷ xs) zero x inside = omega arith
size_at_place f (y ∷ xs) (suc i) x inside = omega (arith, size_at_place f xs i x (omega arith))

labelled_size_at_place : {A L S : Type 0} (f : A → L × Tree L S) (xs : List A) (i : ℕ) (x : A) → i < length xs → tree_size (f (get_or xs i x)).1 ≤ labelled_size (map f xs)
labelled_size_at_place f [] i x inside = absurd (omega arith)
labelled_size_at_place f (y ∷ xs) zero x inside = omega arith
labelled_size_at_place f (y ∷ xs) (suc i) x inside = omega (arith, labelled_size_at_place f xs i x (omega arith))

-- the tree of what stands at a place
pub size_at : {A L S : Type 0} (f : A → Tree L S) (xs : List A) (i : ℕ) (x : A) → i < length xs → x ≡ get_or xs i x → tree_size (f x) ≤ trees_size (map f xs)
size_at f xs i x inside is = subst (λ y. tree_size (f y) ≤ trees_size (map f xs)) (sym is) (size_at_place f xs i x inside)

-- and where the trees carry labels
pub labelled_size_at : {A L S : Type 0} (f : A → L × Tree L S) (xs : List A) (i : ℕ) (x : A) → i < length xs → x ≡ get_or xs i x → tree_size (f x).1 ≤ labelled_size (map f xs)
labelled_size_at f xs i x inside is = subst (λ y. tree_size (f y).1 ≤ labelled_size (map f xs)) (sym is) (labelled_size_at_place f xs i x inside)
