use Rattle.std.proofs.Common.{◌≡◌, ◌∙◌, ◌⊎◌, length, sym, subst}
use Rattle.std.specs.Prelude.{IfSome}
use Rattle.tc_model.specs.Document.{Document}
use Rattle.tc_compact.specs.Meant.{IsRecordUnder}
use Rattle.tc_component.specs.Fetching.{record_at, length_at, IsRecordWithin}
use Rattle.tc_part.proofs.Spelled.{of_read_then}
use Rattle.tc_part.proofs.records.no_document.Goals as goal

pub returns-clause-harmed : goal.returns-clause-harmed
returns-clause-harmed g c =
    let component = c.args.component.now in
    of_read_then c.of_record.result _ _
    (λ file at bytes is. record {
      entry = c.args.place;
      there = c.requires.place;
      file_is = is.0 ∙ c.file_name.ensures;
      place_is = is.1 ∙ c.record_range-at.ensures.begin;
      long = subst (λ b. length b ≡ length_at component.index.slots c.args.place.at) (sym is.2) c.requires.long;
      broken = subst (λ b. (IsRecordWithin component.index.version (length component.index.names) b → ⊥) ⊎ ((d : Document) → IsRecordUnder component.index.names d b → ⊥)) (sym is.2) (c.requires.cause is.3);
      told = subst (λ b. IfSome (g.F.Frozen.content component.file) (λ whole. b ≡ record_at component.index.slots c.args.place.at whole)) (sym is.2) c.requires.read;
    })
    c.of_record.ensures.harmed
