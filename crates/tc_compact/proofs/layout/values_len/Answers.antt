use Rattle.std.proofs.Common.{◌∙◌, length, map, sym, ap, arith}
use Rattle.std.proofs.lemmas.List.{length-map}
use Rattle.tc_record.specs.Record.{texts}
use Rattle.tc_compact.proofs.Compacts.{values_lie}
use Rattle.tc_compact.proofs.layout.values_len.Goals as goal

pub overflow_add-result-2 : goal.overflow_add-result-2
overflow_add-result-2 c =
    let lie = values_lie c.args.form c.args.from.now c.bytes-bytes.ensures.spells in
    omega (arith, lie.parts, ap length c.tags.ensures, ap length c.fixed.ensures, ap length c.texts.ensures)

pub overflow_add-result-3 : goal.overflow_add-result-3
overflow_add-result-3 c =
    let lie = values_lie c.args.form c.args.from.now c.bytes-bytes.ensures.spells in
    omega (arith, lie.parts, c.column_bytes-lengths.ensures.most, ap length c.tags.ensures, ap length c.fixed.ensures, ap length c.texts.ensures)

pub returns-clause-len : goal.returns-clause-len
returns-clause-len c =
    let r = c.args.from.now in
    let lie = values_lie c.args.form r c.bytes-bytes.ensures.spells in
    let lengths = c.column_bytes-lengths.ensures.len (map length (texts r.tokens)) (length-map (texts r.tokens) length ∙ sym c.text_count.ensures) (sym c.longest_text.ensures) in
    omega (arith, lie.len, lengths, ap length c.tags.ensures, ap length c.fixed.ensures, ap length c.texts.ensures)

pub returns-clause-most : goal.returns-clause-most
returns-clause-most c =
    let lie = values_lie c.args.form c.args.from.now c.bytes-bytes.ensures.spells in
    omega (arith, lie.parts, c.column_bytes-lengths.ensures.most, ap length c.tags.ensures, ap length c.fixed.ensures, ap length c.texts.ensures)
