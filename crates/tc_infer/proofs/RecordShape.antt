-- The tokens of a record with names tell the shape of its document, and the names of that shape in their order.
use Rattle.std.proofs.Common.{◌≡◌, ◌∙◌, ℕ, true, List, ◌++◌, Option, None, Some, inl, inr, refl, sym, ap, subst, append-nil}
use Rattle.std.proofs.lemmas.Bool.{true≢false}
use Rattle.std.proofs.lemmas.List.Concat.{flat_map-append}
use Rattle.tc_model.specs.Tree.{leaf, array, object, Items, no_items, item, Members, no_members, member, relabel, items_relabel, members_relabel}
use Rattle.tc_model.specs.Document.{Name, Document, Scalar, ShapeTree, scalar_kind, document_shape}
use Rattle.tc_model.specs.Stored.{IsObject}
use Rattle.tc_model.specs.ShapeNames.{names_within, names_of_items, names_of_members}
use Rattle.tc_record.specs.Preorder.{Token, preorder, items_preorder, members_preorder}
use Rattle.tc_record.specs.Walk.{Key, name}
use Rattle.tc_record.specs.Record.{IsRecordOf}
use Rattle.tc_record.specs.Borrowed.{Record, Spells, named_tokens}
use Rattle.tc_record.proofs.OneDocument.{documents_are_one}
use Rattle.tc_compact.specs.Meant.{tokens_meant, IsRecordUnder}
use Rattle.tc_compact.proofs.Meanings.{tokens_are}
use Rattle.tc_infer.specs.Levels.{label_names, names_told, shape_told, shape_under}
use Rattle.tc_infer.proofs.LevelLaws.{document_told}

-- ---- names

names_told-append : (ts us : List (Token Key Scalar)) → names_told (ts ++ us) ≡ names_told ts ++ names_told us
names_told-append ts us = flat_map-append (λ t. label_names t.label) ts us

mutual
  told-preorder : (l : Option Key) (d : Document) → names_told (preorder l (relabel name (λ s. s) d)) ≡ label_names l ++ names_within (document_shape d)
  told-preorder l (leaf s) = refl
  told-preorder l (array xs) =
      ap (λ ns. label_names l ++ ns) (names_told-append (items_preorder (items_relabel name (λ s. s) xs)) _ ∙ append-nil (names_told (items_preorder (items_relabel name (λ s. s) xs))) ∙ told-items xs)
  told-preorder l (object ms) =
      ap (λ ns. label_names l ++ ns) (names_told-append (members_preorder (members_relabel name (λ s. s) ms)) _ ∙ append-nil (names_told (members_preorder (members_relabel name (λ s. s) ms))) ∙ told-members ms)

  told-items : (xs : Items Name Scalar) → names_told (items_preorder (items_relabel name (λ s. s) xs)) ≡ names_of_items (items_relabel (λ n. n) scalar_kind xs)
  told-items no_items = refl
  told-items (item d xs) = names_told-append (preorder None (relabel name (λ s. s) d)) (items_preorder (items_relabel name (λ s. s) xs)) ∙ rw (told-preorder None d, told-items xs) refl

  told-members : (ms : Members Name Scalar) → names_told (members_preorder (members_relabel name (λ s. s) ms)) ≡ names_of_members (members_relabel (λ n. n) scalar_kind ms)
  told-members no_members = refl
  told-members (member n d ms) = names_told-append (preorder (Some (name n)) (relabel name (λ s. s) d)) (members_preorder (members_relabel name (λ s. s) ms)) ∙ rw (told-preorder (Some (name n)) d, told-members ms) refl

-- ---- records

object_under : (names : List Name) (d : Document) (bytes : List ℕ) → IsRecordUnder names d bytes → IsObject d
object_under names d bytes (inl is) = is.is_object
object_under names d bytes (inr (whole, is, form1)) = is.is_object

-- the tokens of a record mean the shape of its document
pub meant_shape : (names : List Name) (r : Record) (d : Document) → Spells r → IsRecordUnder names d r.bytes → shape_under names r.tokens ≡ document_shape d
meant_shape names r d spells is = ap shape_told (tokens_are names r d spells is) ∙ document_told d (object_under names d r.bytes is)

module _ (r : Record) (spells : Spells r) (named : r.named ≡ true) where
  -- a record with names is that of a document
  record Told : Type 0 where
    document : Document
    is_record : IsRecordOf document r.bytes
    tokens : r.tokens ≡ named_tokens document

  told : Told
  told = by_form spells
    where
      by_form : Spells r → Told
      by_form (inl h) = record { document = h.0; is_record = h.1.1; tokens = h.1.2 }
      by_form (inr h) = absurd (true≢false (sym named ∙ h.1.0))

  shape_is : shape_told r.tokens ≡ document_shape told.document
  shape_is = ap shape_told told.tokens ∙ document_told told.document told.is_record.is_object

  -- and of no other
  pub told_shape : (d : Document) → IsRecordOf d r.bytes → shape_told r.tokens ≡ document_shape d
  told_shape d is = shape_is ∙ ap document_shape (documents_are_one told.document d r.bytes told.is_record is)

  -- what holds of the shape of each document of the record holds of the shape that the tokens tell
  pub of_told : (P : ShapeTree → Type 0) → ((d : Document) → IsRecordOf d r.bytes → P (document_shape d)) → P (shape_told r.tokens)
  of_told P each = subst P (sym shape_is) (each told.document told.is_record)

  -- names mean themselves
  pub plain : (names : List Name) → tokens_meant names r.tokens ≡ r.tokens
  plain names = tokens_are names r told.document spells (inl told.is_record) ∙ sym told.tokens

  pub names_agree : names_told r.tokens ≡ names_within (shape_told r.tokens)
  names_agree = ap names_told told.tokens ∙ told-preorder None told.document ∙ ap names_within (sym shape_is)
