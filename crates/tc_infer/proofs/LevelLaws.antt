-- The tokens of a document leave its shape: each value stands in front of what the level around it still holds.
use Rattle.std.proofs.Common.{◌≡◌, ◌∙◌, List, [], ◌∷◌, ◌++◌, Option, None, Some, refl, ap, append_assoc}
use Rattle.tc_model.specs.Tree.{leaf, array, object, Items, no_items, item, Members, no_members, member, relabel, items_relabel, members_relabel}
use Rattle.tc_model.specs.Document.{Name, Document, Scalar, ScalarKind, scalar_kind, document_shape}
use Rattle.tc_model.specs.Stored.{IsObject}
use Rattle.tc_model.specs.Kinds.{arrays, objects, kind_of}
use Rattle.tc_record.specs.Preorder.{Token, token, closed, preorder, items_preorder, members_preorder}
use Rattle.tc_record.specs.Walk.{Key, name}
use Rattle.tc_record.specs.Borrowed.{named_tokens}
use Rattle.tc_record.specs.Building.{name_told}
use Rattle.tc_infer.specs.Levels.{Level, without_names, innermost, outside, with_shape, with_token, levels, shape_told}

abbrev with_items : Items Name ScalarKind → List Level → List Level
with_items no_items ls = ls
with_items (item s xs) ls = with_shape [] s (with_items xs ls)

abbrev with_members : Members Name ScalarKind → List Level → List Level
with_members no_members ls = ls
with_members (member n s ms) ls = with_shape n s (with_members ms ls)

items_held : (xs : Items Name ScalarKind) (ls : List Level) → without_names (innermost (with_items xs (no_members ∷ ls))) ≡ xs
items_held no_items ls = refl
items_held (item s xs) ls = ap (item s) (items_held xs ls)

outside_items : (xs : Items Name ScalarKind) (ls : List Level) → outside (with_items xs (no_members ∷ ls)) ≡ ls
outside_items no_items ls = refl
outside_items (item s xs) ls = outside_items xs ls

members_held : (ms : Members Name ScalarKind) (ls : List Level) → innermost (with_members ms (no_members ∷ ls)) ≡ ms
members_held no_members ls = refl
members_held (member n s ms) ls = ap (member n s) (members_held ms ls)

outside_members : (ms : Members Name ScalarKind) (ls : List Level) → outside (with_members ms (no_members ∷ ls)) ≡ ls
outside_members no_members ls = refl
outside_members (member n s ms) ls = outside_members ms ls

array_closed : (n : Name) (xs : Items Name ScalarKind) (ls : List Level) → with_token n (Some arrays) (with_items xs (no_members ∷ ls)) ≡ with_shape n (array xs) ls
array_closed n xs ls = rw (items_held xs ls, outside_items xs ls) refl

object_closed : (n : Name) (ms : Members Name ScalarKind) (ls : List Level) → with_token n (Some objects) (with_members ms (no_members ∷ ls)) ≡ with_shape n (object ms) ls
object_closed n ms ls = rw (members_held ms ls, outside_members ms ls) refl

mutual
  levels-preorder : (l : Option Key) (d : Document) (ts : List (Token Key Scalar)) → levels (preorder l (relabel name (λ s. s) d) ++ ts) ≡ with_shape (name_told l) (document_shape d) (levels ts)
  levels-preorder l (leaf s) ts = refl
  levels-preorder l (array xs) ts =
      let held = items_preorder (items_relabel name (λ s. s) xs) in
      let shapes = items_relabel (λ n. n) scalar_kind xs in
      ap (λ us. with_token (name_told l) (Some arrays) (levels us)) (append_assoc held (token None closed ∷ []) ts)
      ∙ ap (with_token (name_told l) (Some arrays)) (levels-items xs (token None closed ∷ ts))
      ∙ array_closed (name_told l) shapes (levels ts)
  levels-preorder l (object ms) ts =
      let held = members_preorder (members_relabel name (λ s. s) ms) in
      let shapes = members_relabel (λ n. n) scalar_kind ms in
      ap (λ us. with_token (name_told l) (Some objects) (levels us)) (append_assoc held (token None closed ∷ []) ts)
      ∙ ap (with_token (name_told l) (Some objects)) (levels-members ms (token None closed ∷ ts))
      ∙ object_closed (name_told l) shapes (levels ts)

  levels-items : (xs : Items Name Scalar) (ts : List (Token Key Scalar)) → levels (items_preorder (items_relabel name (λ s. s) xs) ++ ts) ≡ with_items (items_relabel (λ n. n) scalar_kind xs) (levels ts)
  levels-items no_items ts = refl
  levels-items (item d xs) ts =
      let rest = items_preorder (items_relabel name (λ s. s) xs) in
      ap levels (append_assoc (preorder None (relabel name (λ s. s) d)) rest ts) ∙ levels-preorder None d (rest ++ ts) ∙ ap (with_shape [] (document_shape d)) (levels-items xs ts)

  levels-members : (ms : Members Name Scalar) (ts : List (Token Key Scalar)) → levels (members_preorder (members_relabel name (λ s. s) ms) ++ ts) ≡ with_members (members_relabel (λ n. n) scalar_kind ms) (levels ts)
  levels-members no_members ts = refl
  levels-members (member n d ms) ts =
      let rest = members_preorder (members_relabel name (λ s. s) ms) in
      ap levels (append_assoc (preorder (Some (name n)) (relabel name (λ s. s) d)) rest ts) ∙ levels-preorder (Some (name n)) d (rest ++ ts) ∙ ap (with_shape n (document_shape d)) (levels-members ms ts)

-- the shape that a document's tokens spell
pub document_told : (d : Document) → IsObject d → shape_told (named_tokens d) ≡ document_shape d
document_told (leaf s) is = absurd is
document_told (array xs) is = absurd is
document_told (object ms) is =
    ap (λ ls. object (innermost ls)) (levels-members ms (token None closed ∷ []))
    ∙ ap object (members_held (members_relabel (λ n. n) scalar_kind ms) [])

-- which is that of an object
pub object_told : (ts : List (Token Key Scalar)) → kind_of (shape_told ts) ≡ objects
object_told [] = refl
object_told (t ∷ ts) = refl
