-- Stored documents whose records are alike have one shape.
use Rattle.std.proofs.Common.{◌≡◌, ◌∙◌, ℕ, List, sym, ap, subst}
use Rattle.tc_model.specs.Document.{Name, Document, document_shape}
use Rattle.tc_model.specs.Dictionary.{Extends, IsDictionary}
use Rattle.tc_model.specs.KnownNames.{HasEach}
use Rattle.tc_model.specs.ShapeNames.{names_within}
use Rattle.tc_record.specs.Preorder.{tokens_of}
use Rattle.tc_record.specs.Record.{NumberedTree, record_of, IsNumberedForm, IsNumberedRecordIn, IsRecordOf}
use Rattle.tc_compact.specs.Compacted.{compacted, IsCompactedIn}
use Rattle.tc_alike.specs.Alike.{AreAlike}
use Rattle.tc_alike.proofs.AlikeShapes.{alike_named}
use Rattle.tc_audit.specs.Stored.{IsStoredIn}
use Rattle.tc_audit.proofs.NamesAgain.{tree_again}
use Rattle.tc_audit.proofs.StoredLaws.{kept_in, known_under, stored_numbered}

module _ (names : List Name) where
  pub alike_shape : (d e : Document) → HasEach names (names_within (document_shape d)) → HasEach names (names_within (document_shape e)) → AreAlike (tokens_of (compacted names d)) (tokens_of (compacted names e)) → document_shape d ≡ document_shape e
  alike_shape d e known others alike =
      ap document_shape (sym (tree_again names d known)) ∙ alike_named names (compacted names d) (compacted names e) alike ∙ ap document_shape (tree_again names e others)

-- the record of a document and a newer one under newer names
module _ (stays : (form : ℕ) (d : Document) (whole bytes : List ℕ) (names newer : List Name) → IsRecordOf d whole → IsCompactedIn form names d bytes → IsDictionary newer → Extends newer names → IsCompactedIn form newer d bytes) where
  pub same_shape : (names newer : List Name) → IsDictionary names → IsDictionary newer → Extends newer names → (version own : ℕ) (old new : List ℕ) (s : IsStoredIn version names old) (t : IsStoredIn own newer new)
      → ((own form : ℕ) (n m : NumberedTree) → IsNumberedForm own → IsNumberedRecordIn own n new → IsNumberedRecordIn form m old → AreAlike (tokens_of n) (tokens_of m)) → document_shape s.document ≡ document_shape t.document
  same_shape names newer dictionary later extends version own old new s t alike =
      let k = kept_in version names old dictionary s in
      let under : IsCompactedIn version newer s.document old = stays version s.document (record_of s.document) old names newer k.whole (subst (IsCompactedIn version names s.document) (sym s.spelled) k.compact) later extends in
      let are = alike own version (compacted newer t.document) (compacted newer s.document) t.told (stored_numbered own newer new later t) under.numbered in
      sym (alike_shape newer t.document s.document t.named (known_under newer version s.document old under) are)
