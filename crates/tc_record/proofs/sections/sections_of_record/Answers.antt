use Rattle.std.proofs.Common.{◌≡◌, ◌∙◌, Some, refl, sym}
use Rattle.tc_bytes.specs.Codec.{IsBytes}
use Rattle.tc_record.specs.Sections.{header_at}
use Rattle.tc_record.specs.SectionsView.{header_of}
use Rattle.tc_record.proofs.Tails.{tail_of_header}
use Rattle.tc_record.proofs.sections.sections_of_record.Goals as goal

pub columns_in-requires-clause-tail : goal.columns_in-requires-clause-tail
columns_in-requires-clause-tail c =
    let bytes = c.args.bytes.now in
    let each : IsBytes bytes = λ i. (c.type_inv.bytes i).fits in
    let read : header_at bytes ≡ Some (header_of c.in_ok-header.header, c.in_ok-header.rest.now) = sym c.header_in.ensures ∙ rw c.in_ok-header.was refl in
    tail_of_header bytes (header_of c.in_ok-header.header) c.in_ok-header.rest.now each read
