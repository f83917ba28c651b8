-- The names that a record's tokens carry.
use Rattle.std.proofs.Common.{◌≡◌, ap, ◌∙◌}
use Rattle.tc_model.specs.Document.{Document, document_shape}
use Rattle.tc_model.specs.ShapeNames.{names_within}
use Rattle.tc_record.specs.Record.{IsRecordOf}
use Rattle.tc_record.specs.Borrowed.{Record, Spells, named_tokens}
use Rattle.tc_compact.specs.Slots.{names_in}
use Rattle.tc_compact.proofs.Compacts.{document_tokens}

module _ (order : (d : Document) → names_in (named_tokens d) ≡ names_within (document_shape d)) (r : Record) (spells : Spells r) where
  -- the names of the tokens are those of the shape
  pub names_are : (d : Document) → IsRecordOf d r.bytes → names_in r.tokens ≡ names_within (document_shape d)
  names_are d is = ap names_in (document_tokens r d spells is).1 ∙ order d
