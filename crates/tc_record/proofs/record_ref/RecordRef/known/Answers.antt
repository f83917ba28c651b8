use Rattle.std.proofs.Common.{◌≡◌, ◌∙◌, ap, sym, subst, Some, IfSome, option_map}
use Rattle.tc_bytes.specs.Codec.{IsBytes}
use Rattle.tc_record.specs.Held.{TellsGreatest}
use Rattle.tc_record.specs.Sections.{sections_in}
use Rattle.tc_record.specs.SectionsView.{sections_of}
use Rattle.tc_record.proofs.Holding.{held_spells, held_document, held_numbered, known_cut, known_tokens}
use Rattle.tc_record.proofs.record_ref.RecordRef.known.Goals as goal

pub unreachable-requires : goal.unreachable-requires
unreachable-requires c = known_cut c.args.bytes.now (sym c.sections_of_record.ensures.cut ∙ ap (option_map sections_of) c.in-None.is) c.requires

pub invariant_of-result : goal.invariant_of-result
invariant_of-result c =
    let cut : sections_in c.args.bytes.now ≡ Some (sections_of c.in-Some.sections) = sym c.sections_of_record.ensures.cut ∙ ap (option_map sections_of) c.in-Some.is in
    let each : IsBytes c.args.bytes.now = λ i. (c.type_inv.bytes i).fits in
    let greatest = subst (λ o. IfSome o TellsGreatest) c.in-Some.is c.sections_of_record.ensures.greatest in
    (each, cut, sym (known_tokens c.args.bytes.now c.in-Some.sections cut c.requires), greatest)

pub returns-clause-spells : goal.returns-clause-spells
returns-clause-spells c =
    let cut : sections_in c.args.bytes.now ≡ Some (sections_of c.in-Some.sections) = sym c.sections_of_record.ensures.cut ∙ ap (option_map sections_of) c.in-Some.is in
    let each : IsBytes c.args.bytes.now = λ i. (c.type_inv.bytes i).fits in
    held_spells c.args.bytes.now c.in-Some.sections each cut (known_tokens c.args.bytes.now c.in-Some.sections cut c.requires)

pub returns-clause-document : goal.returns-clause-document
returns-clause-document c =
    let cut : sections_in c.args.bytes.now ≡ Some (sections_of c.in-Some.sections) = sym c.sections_of_record.ensures.cut ∙ ap (option_map sections_of) c.in-Some.is in
    λ d is. held_document c.args.bytes.now c.in-Some.sections d cut is

pub returns-clause-numbered : goal.returns-clause-numbered
returns-clause-numbered c =
    let cut : sections_in c.args.bytes.now ≡ Some (sections_of c.in-Some.sections) = sym c.sections_of_record.ensures.cut ∙ ap (option_map sections_of) c.in-Some.is in
    λ form n told is. held_numbered c.args.bytes.now c.in-Some.sections form n cut told is
