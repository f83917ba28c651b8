use Rattle.std.proofs.Common.{◌≡◌, length, map, sym, ap, ◌∙◌, subst, arith}
use Rattle.std.proofs.lemmas.List.{length-map}
use Rattle.std.proofs.lemmas.Result.{IfOk-weaker}
use Rattle.tc_model.specs.Dictionary.{number as name_number}
use Rattle.tc_model.specs.Document.{document_shape}
use Rattle.tc_model.specs.KnownNames.{HasEach}
use Rattle.tc_model.specs.ShapeNames.{names_within}
use Rattle.tc_model.proofs.LearnedNames.{all_numbered}
use Rattle.tc_record.specs.Record.{IsRecordOf, joined}
use Rattle.tc_compact.specs.Slots.{names_in}
use Rattle.tc_compact.proofs.Compacts.{named_document, names_lie}
use Rattle.tc_flush.proofs.Outcomes.{ok_always}
use Rattle.tc_flush.proofs.RecordNames.{names_are}
use Rattle.tc_flush.proofs.record.compact_counted.Goals as goal

pub add_learning-requires-clause-short : goal.add_learning-requires-clause-short
add_learning-requires-clause-short c = λ d is.
    let r = c.args.of in
    let lie = names_lie r c.bytes-bytes.ensures.spells c.requires.named in
    omega (arith, lie.held, ap (λ ns. length (joined ns)) (names_are c.names_agree.ensures.order r c.bytes-bytes.ensures.spells d is), c.requires.short)

pub compact_numbered-requires-clause-members : goal.compact_numbered-requires-clause-members
compact_numbered-requires-clause-members c =
    let r = c.args.of in
    let found = named_document r c.bytes-bytes.ensures.spells c.requires.named in
    let ns = names_within (document_shape found.0) in
    ap length (c.as_slice.ensures.value ∙ c.in_ok-add_learning.ensures.numbers found.0 found.1)
    ∙ length-map ns (name_number c.add_learning.new.names)
    ∙ ap length (sym (names_are c.names_agree.ensures.order r c.bytes-bytes.ensures.spells found.0 found.1))
    ∙ ap (λ r. length (names_in r.tokens)) (sym c.again-again.ensures)

pub returns-clause-learned : goal.returns-clause-learned
returns-clause-learned c = ok_always c.compact_numbered.result _ c.in_ok-add_learning.ensures.names

pub returns-clause-counted : goal.returns-clause-counted
returns-clause-counted c = ok_always c.compact_numbered.result _ c.in_ok-add_learning.ensures.added

pub returns-clause-compacted : goal.returns-clause-compacted
returns-clause-compacted c =
    let r = c.args.of in
    let names = c.add_learning.new.names in
    IfOk-weaker c.compact_numbered.result _ _
    (λ bytes made d is.
    let within = names_within (document_shape d) in
    let same : names_in c.again-again.result.tokens ≡ within = ap (λ r. names_in r.tokens) c.again-again.ensures ∙ names_are c.names_agree.ensures.order r c.bytes-bytes.ensures.spells d is in
    let has = subst (λ known. HasEach known within) (sym (c.in_ok-add_learning.ensures.names d is)) (all_numbered c.args.names.now within) in
    made d (subst (λ r. IsRecordOf d r.bytes) (sym c.again-again.ensures) is) names c.len-known.ensures.dictionary (subst (HasEach names) (sym same) has)
    (c.as_slice.ensures.value ∙ c.in_ok-add_learning.ensures.numbers d is ∙ ap (map (name_number names)) (sym same)))
    c.compact_numbered.ensures.compacted
