-- A record that spells a document like a stored one is a stored one too, if it is short with names. Their documents have one shape.
use Rattle.std.proofs.Common.{◌≡◌, ◌∙◌, ◌<◌, ◌^◌, ℕ, false, List, Some, option_map, length, sym, ap}
use Rattle.tc_model.specs.Document.{Name, Document, document_shape}
use Rattle.tc_model.specs.Dictionary.{IsDictionary}
use Rattle.tc_record.specs.Record.{record_of, NumberedTree}
use Rattle.tc_record.specs.Borrowed.{Record, Spells, numbered_tokens}
use Rattle.tc_compact.specs.Compacted.{compacted}
use Rattle.tc_compact.specs.Meant.{expanded, IsRecordUnder}
use Rattle.tc_alike.specs.Known.{IsKnownUnder}
use Rattle.tc_audit.specs.Stored.{IsStoredIn}
use Rattle.tc_audit.specs.Told.{document_in}
use Rattle.tc_audit.proofs.ContentLaws.{stored_document, ReadsMeant}
use Rattle.tc_audit.proofs.StoredLaws.{lacks_by_document, stored_by_tests, stored_numbered, stored_under}
use Rattle.tc_audit.proofs.StoredShapes.{same_keyless}

pub stored_known : (version : ℕ) (names : List Name) (bytes : List ℕ) → IsDictionary names → IsStoredIn version names bytes → IsKnownUnder names bytes
stored_known version names bytes dictionary s = record {
  form = version;
  told = s.told;
  tree = compacted names s.document;
  is_record = stored_numbered version names bytes dictionary s;
  document = s.document;
  under = stored_under version names bytes dictionary s;
}

-- a record, and a stored one that has documents of the same shape
module _ (names : List Name) (r : Record) (other : List ℕ) (dictionary : IsDictionary names) (s : IsStoredIn r.form names other)
    (shape : (d e : Document) → IsRecordUnder names d r.bytes → IsRecordUnder names e other → document_shape d ≡ document_shape e) where
  pub stored_like : Spells r → r.named ≡ false → (d : Document) × IsRecordUnder names d r.bytes → ((n : NumberedTree) → r.tokens ≡ numbered_tokens n → length (record_of (expanded names n)) < 2 ^ 30) → IsStoredIn r.form names r.bytes
  stored_like spells unnamed (d, under) short =
      let same = shape d s.document under (stored_under r.form names other dictionary s) in
      stored_by_tests names r d unnamed spells under short (lacks_by_document names r d unnamed spells under (same_keyless d s.document same s.storable.1))

  pub shaped_like : ReadsMeant → IsStoredIn r.form names r.bytes → option_map document_shape (document_in names r.bytes) ≡ option_map document_shape (document_in names other)
  shaped_like reads t =
      let same = shape t.document s.document (stored_under r.form names r.bytes dictionary t) (stored_under r.form names other dictionary s) in
      ap (option_map document_shape) (stored_document reads r.form names r.bytes dictionary t) ∙ ap Some same ∙ sym (ap (option_map document_shape) (stored_document reads r.form names other dictionary s))
