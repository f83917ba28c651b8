-- What is added up or written token by token, over the items and the members of a document.
use Rattle.std.proofs.Common.{◌≡◌, ◌∙◌, ◌<◌, ◌+◌, ℕ, sym, ap, List, ◌++◌, length, map, drop, get_or, None, Some, Option}
use Rattle.tc_model.specs.Tree.{items_of, members_of}
use Rattle.tc_model.specs.Document.{Name, Document, Scalar}
use Rattle.tc_record.specs.Preorder.{Token, preorder, items_preorder, members_preorder}
use Rattle.tc_value.proofs.Sizes.{from_place}
use Rattle.tc_value.specs.Meaning.{tree_of, member_of}
use Rattle.tc_value.specs.declared.document.Doc.{Doc}
use Rattle.tc_value.specs.declared.document.Member.{Member}

-- tokens behind others
abbrev pub Appends : {A : Type 0} → (A → List (Token Name Scalar) → A) → Type 0
Appends {A} with_all = (ts us : List (Token Name Scalar)) (a : A) → with_all a (ts ++ us) ≡ with_all (with_all a ts) us

-- a member's name and then its value
abbrev pub Labels : {A : Type 0} → (A → List (Token Name Scalar) → A) → (A → Option Name → A) → Type 0
Labels {A} with_all with_label = (a : A) (n : Name) (d : Document) → with_all a (preorder (Some n) d) ≡ with_all (with_label a (Some n)) (preorder None d)

-- one item more
pub fold-item : {A : Type 0} (with_all : A → List (Token Name Scalar) → A) → Appends with_all → (xs : List Doc) (i : ℕ) (x : Doc) (a after : A) → i < length xs → x ≡ get_or xs i x → after ≡ with_all a (preorder None (tree_of x))
    → with_all after (items_preorder (items_of (map tree_of (drop (i + 1) xs)))) ≡ with_all a (items_preorder (items_of (map tree_of (drop i xs))))
fold-item with_all append xs i x a after inside here is = rw (from_place xs i x inside here, is) (sym (append (preorder None (tree_of x)) _ a))

-- one member more
pub fold-member : {A : Type 0} (with_all : A → List (Token Name Scalar) → A) (with_label : A → Option Name → A) → Appends with_all → Labels with_all with_label → (xs : List Member) (i : ℕ) (x : Member) (a after : A)
    → i < length xs → x ≡ get_or xs i x → after ≡ with_all (with_label a (Some x.name)) (preorder None (tree_of x.value))
    → with_all after (members_preorder (members_of (map member_of (drop (i + 1) xs)))) ≡ with_all a (members_preorder (members_of (map member_of (drop i xs))))
fold-member with_all with_label append labelled xs i x a after inside here is =
    rw (from_place xs i x inside here, is) (ap (λ b. with_all b (members_preorder (members_of (map member_of (drop (i + 1) xs))))) (sym (labelled a x.name (tree_of x.value))) ∙ sym (append (preorder (Some x.name) (tree_of x.value)) _ a))
