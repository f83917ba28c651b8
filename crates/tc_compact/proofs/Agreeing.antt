-- A record and the shape of its document have the same names in the same order, each of them short, and the record has
-- a byte for each value.
use Rattle.std.proofs.Common.{◌≡◌, ◌∙◌, ℕ, ◌<◌, ◌≤◌, ◌^◌, All, List, [], ◌∷◌, ◌++◌, Option, None, Some, length, option_to_list, refl, ap, arith, length-append, append-nil}
use Rattle.std.specs.List.{AllByRecursion}
use Rattle.std.proofs.lemmas.List.{length-map}
use Rattle.std.proofs.lemmas.List.Concat.{flat_map-append}
use Rattle.std.proofs.lemmas.List.Elements.{All-from_recursion}
use Rattle.tc_model.specs.Tree.{leaf, array, object, Items, no_items, item, Members, no_members, member, items_relabel, members_relabel}
use Rattle.tc_model.specs.Document.{Name, Document, Scalar, scalar_kind, document_shape}
use Rattle.tc_model.specs.ShapeNames.{names_within, names_of_items, names_of_members}
use Rattle.tc_model.specs.TreeSize.{tree_size, items_size, members_size}
use Rattle.tc_record.specs.Preorder.{Token, token, closed, preorder, items_preorder, members_preorder, tokens_of}
use Rattle.tc_record.specs.Record.{labels, joined, piece_tag, IsRecordOf}
use Rattle.tc_record.specs.Borrowed.{named_tokens}
use Rattle.tc_compact.specs.Slots.{names_in}
use Rattle.tc_compact.proofs.Compacts.{document_names, document_length}

-- ---- the names of a record

labels-append : (ts us : List (Token Name Scalar)) → labels (ts ++ us) ≡ labels ts ++ labels us
labels-append ts us = flat_map-append (λ t. option_to_list t.label) ts us

mutual
  names-preorder : (l : Option Name) (d : Document) → labels (preorder l d) ≡ option_to_list l ++ names_within (document_shape d)
  names-preorder l (leaf s) = refl
  names-preorder l (array xs) =
      ap (λ ns. option_to_list l ++ ns) (labels-append (items_preorder xs) _ ∙ append-nil (labels (items_preorder xs)) ∙ names-items xs)
  names-preorder l (object ms) =
      ap (λ ns. option_to_list l ++ ns) (labels-append (members_preorder ms) _ ∙ append-nil (labels (members_preorder ms)) ∙ names-members ms)

  names-items : (xs : Items Name Scalar) → labels (items_preorder xs) ≡ names_of_items (items_relabel (λ name. name) scalar_kind xs)
  names-items no_items = refl
  names-items (item t ts) = labels-append (preorder None t) (items_preorder ts) ∙ rw (names-preorder None t, names-items ts) refl

  names-members : (ms : Members Name Scalar) → labels (members_preorder ms) ≡ names_of_members (members_relabel (λ name. name) scalar_kind ms)
  names-members no_members = refl
  names-members (member l t ms) = labels-append (preorder (Some l) t) (members_preorder ms) ∙ rw (names-preorder (Some l) t, names-members ms) refl

pub same_order : (d : Document) → names_in (named_tokens d) ≡ names_within (document_shape d)
same_order d = document_names d ∙ names-preorder None d

-- ---- how long names are

each_short : (ns : List Name) → length (joined ns) < 2 ^ 32 → AllByRecursion (λ name. length name < 2 ^ 32) ns
each_short [] short = tt
each_short (n ∷ ns) short = let sum = length-append n (joined ns) in (omega (arith, sum, short), each_short ns (omega (arith, sum, short)))

pub short_names : (d : Document) (whole : List ℕ) → IsRecordOf d whole → All (λ name. length name < 2 ^ 32) (names_within (document_shape d))
short_names d whole is =
    let ls = labels (tokens_of d) in
    let len = document_length d whole is.spelled in
    rw (← names-preorder None d) (All-from_recursion _ ls (each_short ls (omega (arith, len, is.short))))

-- ---- how many values there are

mutual
  size-preorder : (l : Option Name) (d : Document) → tree_size d ≤ length (preorder l d)
  size-preorder l (leaf s) = omega arith
  size-preorder l (array xs) = omega (arith, size-items xs, length-append (items_preorder xs) (token None closed ∷ []))
  size-preorder l (object ms) = omega (arith, size-members ms, length-append (members_preorder ms) (token None closed ∷ []))

  size-items : (xs : Items Name Scalar) → items_size xs ≤ length (items_preorder xs)
  size-items no_items = omega arith
  size-items (item t ts) = omega (arith, size-preorder None t, size-items ts, length-append (preorder None t) (items_preorder ts))

  size-members : (ms : Members Name Scalar) → members_size ms ≤ length (members_preorder ms)
  size-members no_members = omega arith
  size-members (member l t ms) = omega (arith, size-preorder (Some l) t, size-members ms, length-append (preorder (Some l) t) (members_preorder ms))

pub fewer_values : (d : Document) (whole : List ℕ) → IsRecordOf d whole → tree_size d ≤ length whole
fewer_values d whole is =
    let ts = tokens_of d in
    omega (arith, size-preorder None d, length-map ts (λ t. piece_tag t.piece), document_length d whole is.spelled)
