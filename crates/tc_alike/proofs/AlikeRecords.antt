-- A record with the tags and the numbers of one that spells a document spells one too, if it is short with names. Their documents
-- have one shape.
use Rattle.std.proofs.Common.{◌≡◌, ◌∙◌, ◌<◌, ◌^◌, ℕ, false, List, None, Some, option_map, length, map, refl, sym, ap, subst, arith, inl, inr}
use Rattle.std.specs.List.{AllByRecursion}
use Rattle.tc_model.specs.Document.{Name, Document, document_shape, IsDocument}
use Rattle.tc_model.specs.Dictionary.{IsDictionary}
use Rattle.tc_record.specs.Preorder.{tokens_of}
use Rattle.tc_record.specs.Record.{labels, record_of, NumberedTree, IsNumberedForm, IsNumberedRecordIn}
use Rattle.tc_record.specs.Borrowed.{Record, Spells, IsBelow, numbered_tokens}
use Rattle.tc_record.specs.Building.{document_read}
use Rattle.tc_record.specs.Walk.{number}
use Rattle.tc_record.proofs.Built.{document_again}
use Rattle.tc_record.proofs.Keyed.{preorder-relabel, labels-retoken}
use Rattle.tc_compact.specs.Meant.{expanded, shape_meant, HasRoom, IsRecordUnder}
use Rattle.tc_compact.proofs.Meanings.{has_room, means_shape, numbered_meant, under_expanded}
use Rattle.tc_compact.proofs.NumberedTrees.{numbered_tree, HasTree}
use Rattle.tc_alike.specs.Alike.{AreAlike}
use Rattle.tc_alike.specs.Known.{IsKnownUnder}
use Rattle.tc_alike.proofs.AlikeShapes.{alike_named}
use Rattle.tc_alike.proofs.OrderedShapes.{shape_ordered}

lawful_under : (names : List Name) (d : Document) (bytes : List ℕ) → IsRecordUnder names d bytes → IsDocument d
lawful_under names d bytes (inl is) = is.document
lawful_under names d bytes (inr (whole, is, under)) = is.document

-- a record, and a known one with the same tags and numbers
module _ (names : List Name) (r : Record) (other : List ℕ) (dictionary : IsDictionary names) (spells : Spells r) (unnamed : r.named ≡ false) (k : IsKnownUnder names other)
    (alike : (own form : ℕ) (n m : NumberedTree) → IsNumberedForm own → IsNumberedRecordIn own n r.bytes → IsNumberedRecordIn form m other → AreAlike (tokens_of n) (tokens_of m)) where
  tree : HasTree r
  tree = numbered_tree r spells unnamed

  are : AreAlike (tokens_of tree.tree) (tokens_of k.tree)
  are = alike r.form k.form tree.tree k.tree tree.form tree.is k.is_record

  abbrev known : Record
  known = record { bytes = other; form = k.form; named = false; tokens = numbered_tokens k.tree }

  known_spells : Spells known
  known_spells = inr (k.tree, (refl, k.is_record, refl, k.told))

  below : AllByRecursion (IsBelow (length names)) (labels r.tokens)
  below =
      let keyed : (n : NumberedTree) → labels (numbered_tokens n) ≡ map number (labels (tokens_of n)) = λ n. ap labels (preorder-relabel number n None) ∙ labels-retoken number (tokens_of n) in
      subst (AllByRecursion (IsBelow (length names))) (keyed k.tree ∙ ap (map number) (sym are.numbers_are) ∙ sym (keyed tree.tree) ∙ ap labels (sym tree.tokens)) (has_room names known k.document known_spells refl k.under).known

  shaped : (e : Document) → IsRecordUnder names e other → document_shape (expanded names tree.tree) ≡ document_shape e
  shaped e that = alike_named names tree.tree k.tree are ∙ ap document_shape (sym (under_expanded names known k.tree e known_spells refl that))

  meant : shape_meant names r.tokens ≡ Some (document_shape k.document)
  meant =
      ap (shape_meant names) tree.tokens
      ∙ ap (λ ts. option_map document_shape (document_read ts)) (numbered_meant names tree.tree)
      ∙ ap (option_map document_shape) (document_again (expanded names tree.tree))
      ∙ ap Some (shaped k.document k.under)

  pub like_spelled : ((n : NumberedTree) → r.tokens ≡ numbered_tokens n → length (record_of (expanded names n)) < 2 ^ 30) → (d : Document) × IsRecordUnder names d r.bytes
  like_spelled short =
      let room : HasRoom names r = record { known = below; short = λ n tokens. let less = short n tokens in omega (arith, less) } in
      let (d, under, shape) = means_shape names r (document_shape k.document) dictionary spells (λ _. room) (shape_ordered k.document (lawful_under names k.document other k.under)) meant in
      (d, under)

  pub like_shaped : (d e : Document) → IsRecordUnder names d r.bytes → IsRecordUnder names e other → document_shape d ≡ document_shape e
  like_shaped d e is that = ap document_shape (under_expanded names r tree.tree d spells tree.tokens is) ∙ shaped e that
