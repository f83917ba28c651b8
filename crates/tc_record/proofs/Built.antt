-- The tokens of a document are read as that document, and what is read of a document's tokens is lawful.
use Rattle.std.proofs.Common.{◌≡◌, ◌∙◌, ℕ, true, List, [], ◌∷◌, ◌++◌, map, Option, None, Some, option_map, inl, inr, refl, sym, ap, subst, append_assoc}
use Rattle.std.proofs.lemmas.Bool.{both_ways}
use Rattle.std.proofs.lemmas.Option.{same_Some}
use Rattle.tc_model.specs.Tree.{leaf, array, object, Items, no_items, item, Members, no_members, member, items_of, members_of, items_relabel, members_relabel}
use Rattle.tc_model.specs.Document.{Name, Document, Scalar, IsAscending, IsScalar, IsDocument, AreItemsOf, AreMembersOf}
use Rattle.tc_value.specs.Meaning.{tree_of}
use Rattle.tc_value.specs.declared.document.Doc.{Doc}
use Rattle.tc_model.proofs.TreeLists.{listed_members-members_of}
use Rattle.tc_record.specs.Preorder.{Token, token, array_opened, object_opened, preorder, items_preorder, members_preorder}
use Rattle.tc_record.specs.Record.{IsRecordOf}
use Rattle.tc_record.specs.Borrowed.{Record, Spells, named_tokens}
use Rattle.tc_record.specs.Walk.{Key, name}
use Rattle.tc_record.specs.Building.{Entry, Levels, innermost, outer, value_in, member_in, levels_before, levels_of, document_read, AreDocuments, HoldDocuments}
use Rattle.tc_record.proofs.Walks.{close}
use Rattle.tc_record.proofs.Keyed.{keyed}

-- ---- what is spelled is read

-- items and members, as they are read
abbrev item_entries : Items Name Scalar → List Entry
item_entries no_items = []
item_entries (item t ts) = (None, t) ∷ item_entries ts

abbrev member_entries : Members Name Scalar → List Entry
member_entries no_members = []
member_entries (member n t ms) = (Some (name n), t) ∷ member_entries ms

items_back : (xs : Items Name Scalar) → items_of (map value_in (item_entries xs)) ≡ xs
items_back no_items = refl
items_back (item t ts) = ap (item t) (items_back ts)

members_back : (ms : Members Name Scalar) → members_of (map member_in (member_entries ms)) ≡ ms
members_back no_members = refl
members_back (member n t ms) = ap (member n t) (members_back ms)

mutual
  tree_read : (d : Document) (l : Option Key) (rest : List (Token Key Scalar)) → levels_of (preorder l (keyed d) ++ rest) ≡ levels_before l (Some d) (levels_of rest)
  tree_read (leaf s) l rest = refl
  tree_read (array xs) l rest = rw (append_assoc (items_preorder (items_relabel name (λ s. s) xs)) (close ∷ []) rest, items_read xs rest, items_back xs) refl
  tree_read (object ms) l rest = rw (append_assoc (members_preorder (members_relabel name (λ s. s) ms)) (close ∷ []) rest, members_read ms rest, members_back ms) refl

  items_read : (xs : Items Name Scalar) (rest : List (Token Key Scalar)) → levels_of (items_preorder (items_relabel name (λ s. s) xs) ++ close ∷ rest) ≡ item_entries xs ∷ levels_of rest
  items_read no_items rest = refl
  items_read (item t ts) rest =
      let further = items_preorder (items_relabel name (λ s. s) ts) in
      rw (append_assoc (preorder None (keyed t)) further (close ∷ rest), tree_read t None (further ++ close ∷ rest), items_read ts rest) refl

  members_read : (ms : Members Name Scalar) (rest : List (Token Key Scalar)) → levels_of (members_preorder (members_relabel name (λ s. s) ms) ++ close ∷ rest) ≡ member_entries ms ∷ levels_of rest
  members_read no_members rest = refl
  members_read (member n t ms) rest =
      let further = members_preorder (members_relabel name (λ s. s) ms) in
      rw (append_assoc (preorder (Some (name n)) (keyed t)) further (close ∷ rest), tree_read t (Some (name n)) (further ++ close ∷ rest), members_read ms rest) refl

pub document_again : (d : Document) → document_read (named_tokens d) ≡ Some d
document_again (leaf s) = refl
document_again (array xs) = rw (items_read xs [], items_back xs) refl
document_again (object ms) = rw (members_read ms [], members_back ms) refl

pub document_holds : (d : Document) → IsDocument d → HoldDocuments (levels_of (named_tokens d))
document_holds (leaf s) is = ((is, tt), tt)
document_holds (array xs) is = rw (items_read xs [], items_back xs) ((is, tt), tt)
document_holds (object ms) is = rw (members_read ms [], members_back ms) ((is, tt), tt)

-- ---- what a document holds is lawful

items_hold : (es : List Entry) → AreItemsOf IsScalar (items_of (map value_in es)) → AreDocuments es
items_hold [] are = tt
items_hold (e ∷ es) are = (are.0, items_hold es are.1)

members_hold : (es : List Entry) → AreMembersOf IsScalar (members_of (map member_in es)) → AreDocuments es
members_hold [] are = tt
members_hold (e ∷ es) are = (are.1, members_hold es are.2)

pub levels_hold : (levels : Levels) → AreDocuments (innermost levels) → HoldDocuments (outer levels) → HoldDocuments levels
levels_hold [] here further = tt
levels_hold (es ∷ levels) here further = (here, further)

pub array_holds : (l : Option Key) (ts : List (Token Key Scalar)) → HoldDocuments (levels_of (token l array_opened ∷ ts)) → HoldDocuments (levels_of ts)
array_holds l ts holds = within (levels_of ts) holds.0.0 holds.0.1 holds.1
  where
    within : (levels : Levels) → AreItemsOf IsScalar (items_of (map value_in (innermost levels))) → AreDocuments (innermost (outer levels)) → HoldDocuments (outer (outer levels)) → HoldDocuments levels
    within levels are here further = levels_hold levels (items_hold (innermost levels) are) (levels_hold (outer levels) here further)

pub object_holds : (l : Option Key) (ts : List (Token Key Scalar)) → HoldDocuments (levels_of (token l object_opened ∷ ts)) → HoldDocuments (levels_of ts)
object_holds l ts holds = within (levels_of ts) holds.0.0.1 holds.0.1 holds.1
  where
    within : (levels : Levels) → AreMembersOf IsScalar (members_of (map member_in (innermost levels))) → AreDocuments (innermost (outer levels)) → HoldDocuments (outer (outer levels)) → HoldDocuments levels
    within levels are here further = levels_hold levels (members_hold (innermost levels) are) (levels_hold (outer levels) here further)

pub object_ascends : (l : Option Key) (ts : List (Token Key Scalar)) (ms : List (Name × Document)) → HoldDocuments (levels_of (token l object_opened ∷ ts)) → ms ≡ map member_in (innermost (levels_of ts)) → IsAscending ms
object_ascends l ts ms holds is = subst IsAscending (listed_members-members_of (map member_in (innermost (levels_of ts))) ∙ sym is) holds.0.0.0

-- ---- the document of a record with names

-- bytes, and the tokens that are read of them
pub record SpellsDocument (bytes : List ℕ) (tokens : List (Token Key Scalar)) : Type 0 where
  pub document : Document
  pub is : IsRecordOf document bytes
  pub tokens_are : tokens ≡ named_tokens document

pub spells_document : (r : Record) (bytes : List ℕ) (tokens : List (Token Key Scalar)) → Spells r → r.named ≡ true → r.bytes ≡ bytes → tokens ≡ r.tokens → SpellsDocument bytes tokens
spells_document r bytes tokens (inl d) named same read = record { document = d.0; is = subst (IsRecordOf d.0) same d.1.1; tokens_are = read ∙ d.1.2 }
spells_document r bytes tokens (inr n) named same read = absurd (both_ways r.named n.1.0 named)

pub spelled_holds : (bytes : List ℕ) (tokens : List (Token Key Scalar)) → SpellsDocument bytes tokens → HoldDocuments (levels_of tokens)
spelled_holds bytes tokens spelled = rw spelled.tokens_are (document_holds spelled.document spelled.is.document)

-- a document that was built of the tokens of a document is that document
pub built_is : (tokens : List (Token Key Scalar)) (built : Option Doc) (doc : Doc) (d : Document) → option_map tree_of built ≡ document_read tokens → built ≡ Some doc → tokens ≡ named_tokens d → tree_of doc ≡ d
built_is tokens built doc d read is same =
    same_Some (tree_of doc) d (sym (ap (option_map tree_of) is) ∙ read ∙ ap document_read same ∙ document_again d)
