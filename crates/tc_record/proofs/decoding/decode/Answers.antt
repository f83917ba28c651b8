use Rattle.std.proofs.Common.{◌∙◌, sym, subst}
use Rattle.tc_record.specs.Record.{IsRecordOf}
use Rattle.tc_record.proofs.Built.{SpellsDocument, spells_document, spelled_holds, built_is}
use Rattle.tc_record.proofs.decoding.decode.Goals as goal

pub document_of-requires : goal.document_of-requires
document_of-requires c =
    let r = c.in-Some in
    let spelled : SpellsDocument c.args.bytes.now c.cursor.result = spells_document r.record c.args.bytes.now c.cursor.result r.ensures.spells (sym c.named.ensures ∙ c.if-not-named.false) r.ensures.bytes c.cursor.ensures in
    spelled_holds c.args.bytes.now c.cursor.result spelled

pub returns-in-Some-2-clause-found : goal.returns-in-Some-2-clause-found
returns-in-Some-2-clause-found c =
    let r = c.in-Some in
    let spelled : SpellsDocument c.args.bytes.now c.cursor.result = spells_document r.record c.args.bytes.now c.cursor.result r.ensures.spells (sym c.named.ensures ∙ c.if-not-named.false) r.ensures.bytes c.cursor.ensures in
    let is = built_is c.cursor.result c.in_ok-doc.field-0 c.in-Some-2.doc spelled.document c.in_ok-doc.ensures c.in-Some-2.is spelled.tokens_are in
    subst (λ d. IsRecordOf d c.args.bytes.now) (sym is) spelled.is

pub returns-in-Some-2-clause-only : goal.returns-in-Some-2-clause-only
returns-in-Some-2-clause-only c =
    λ d of_bytes. built_is c.cursor.result c.in_ok-doc.field-0 c.in-Some-2.doc d c.in_ok-doc.ensures c.in-Some-2.is (c.cursor.ensures ∙ (c.in-Some.ensures.document d of_bytes).1)
