-- What a list of documents holds has no more values than the list, and lists from a place on: for recursions over documents.
use Rattle.std.proofs.Common.{◌≡◌, ◌∙◌, ◌<◌, ◌≤◌, ◌+◌, ℕ, suc, List, ◌∷◌, length, get_or, map, drop, sym, ap, add-one, drop-cons}
use Rattle.tc_model.specs.TreeSize.{tree_size, trees_size, labelled_size}
use Rattle.tc_model.proofs.TreeLists.{size_at, labelled_size_at}
use Rattle.tc_value.specs.declared.document.Doc.{Doc}
use Rattle.tc_value.specs.declared.document.Member.{Member}
use Rattle.tc_value.specs.Meaning.{tree_of, member_of}

-- the elements from a place on, one by one
pub from_place : {A : Type 0} (xs : List A) (i : ℕ) (x : A) → i < length xs → x ≡ get_or xs i x → drop i xs ≡ x ∷ drop (i + 1) xs
from_place xs i x inside here = rw (add-one i) (drop-cons xs i x inside ∙ ap (λ y. y ∷ drop (suc i) xs) (sym here))

-- an item that a loop stands at
pub item_size : (ds : List Doc) (i : ℕ) (d : Doc) → i < length ds → d ≡ get_or ds i d → tree_size (tree_of d) ≤ trees_size (map tree_of ds)
item_size ds i d inside here = size_at tree_of ds i d inside here

-- a member that a loop stands at
pub member_size : (ms : List Member) (i : ℕ) (m : Member) → i < length ms → m ≡ get_or ms i m → tree_size (tree_of m.value) ≤ labelled_size (map member_of ms)
member_size ms i m inside here = labelled_size_at member_of ms i m inside here
