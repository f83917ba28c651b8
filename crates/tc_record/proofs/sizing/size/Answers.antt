use Rattle.std.proofs.Common.{◌∙◌, ap, length}
use Rattle.tc_value.specs.Meaning.{tree_of}
use Rattle.tc_record.specs.Record.{record_of}
use Rattle.tc_model.specs.Stored.{IsObject}
use Rattle.tc_record.specs.Measured.{record_len}
use Rattle.tc_record.proofs.Lengths.{measured_len, sized}
use Rattle.tc_record.proofs.sizing.size.Goals as goal

pub returns-in-Object-clause-some : goal.returns-in-Object-clause-some
returns-in-Object-clause-some c =
    let d = tree_of c.args.doc.now in
    let object : IsObject d = rw c.in-Object.is tt in
    (sized c.len_of_record.result (length (record_of d)) c.within_u32.result object (c.len_of_record.ensures ∙ ap record_len c.measure_document.ensures.measured ∙ measured_len d) c.within_u32.ensures).0

pub returns-in-Object-clause-none : goal.returns-in-Object-clause-none
returns-in-Object-clause-none c =
    let d = tree_of c.args.doc.now in
    let object : IsObject d = rw c.in-Object.is tt in
    (sized c.len_of_record.result (length (record_of d)) c.within_u32.result object (c.len_of_record.ensures ∙ ap record_len c.measure_document.ensures.measured ∙ measured_len d) c.within_u32.ensures).1
