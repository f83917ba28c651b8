use Rattle.std.proofs.Common.{◌≡◌, ◌∙◌, ◌<◌, ◌^◌, sym, ap, subst, length}
use Rattle.tc_value.specs.Meaning.{tree_of}
use Rattle.tc_record.specs.Record.{record_of}
use Rattle.tc_record.specs.Measured.{record_len}
use Rattle.tc_record.proofs.Lengths.{IsExactMeasure, exact_measure, few_tags, few_fixed, few_texts, few_names}
use Rattle.tc_record.specs.Preorder.{tokens_of}
use Rattle.tc_record.specs.Written.{with_tokens, in_a_row}
use Rattle.tc_record.proofs.Encoded.{headed, encoded}
use Rattle.tc_record.proofs.encoding.encode.Goals as goal

pub put_header-requires-clause-len : goal.put_header-requires-clause-len
put_header-requires-clause-len c =
    let d = tree_of c.args.doc.now in
    let exact = exact_measure d c.requires.short in
    let len : c.len_of_record-len.result ≡ length (record_of d) = c.len_of_record-len.ensures ∙ ap record_len c.measure_document-measure.ensures.measured ∙ exact.len in
    rw len c.requires.short

pub put_header-requires-clause-tags : goal.put_header-requires-clause-tags
put_header-requires-clause-tags c =
    let d = tree_of c.args.doc.now in
    let few = few_tags d c.requires.short in
    rw c.measure_document-measure.ensures.measured few

pub put_header-requires-clause-fixed : goal.put_header-requires-clause-fixed
put_header-requires-clause-fixed c =
    let d = tree_of c.args.doc.now in
    let few = few_fixed d c.requires.short in
    rw c.measure_document-measure.ensures.measured few

pub put_header-requires-clause-texts : goal.put_header-requires-clause-texts
put_header-requires-clause-texts c =
    let d = tree_of c.args.doc.now in
    let few = few_texts d c.requires.short in
    rw c.measure_document-measure.ensures.measured few

pub put_header-requires-clause-names : goal.put_header-requires-clause-names
put_header-requires-clause-names c =
    let d = tree_of c.args.doc.now in
    let few = few_names d c.requires.short in
    rw c.measure_document-measure.ensures.measured few

pub returns-clause-spelled : goal.returns-clause-spelled
returns-clause-spelled c =
    let d = tree_of c.args.doc.now in
    let exact = exact_measure d c.requires.short in
    let exact_here : IsExactMeasure d c.measure_document-measure.result = rw c.measure_document-measure.ensures.measured exact in
    let front = headed c.put_header.new.out.items c.in_ok-out.out.items _ _ _ _ _ _ _ _ c.in_ok-put_header.ensures c.in_ok-out.ensures.items c.len_of_record-len.ensures in
    c.of.ensures.same ∙ encoded d c.measure_document-measure.result c.put_header.new.out.items _ exact_here front (c.in_ok-into_row.ensures ∙ ap in_a_row (c.in_ok-put_value.ensures ∙ ap (λ w. with_tokens w (tokens_of d)) c.in_ok-columns.ensures))

pub returns-clause-is_record : goal.returns-clause-is_record
returns-clause-is_record c =
    let spelled : c.of.result ≡ record_of (tree_of c.args.doc.now) = returns-clause-spelled c in
    λ document shallow. record {
      document = document;
      is_object = c.requires.object;
      shallow = shallow;
      spelled = spelled;
      short = subst (λ bytes. length bytes < 2 ^ 32) (sym spelled) c.requires.short;
    }
