use Rattle.std.proofs.Common.{◌∙◌, arith}
use Rattle.tc_record_text.proofs.LabelLaws.{label_at}
use Rattle.tc_record_text.proofs.memo.LabelMemo.label_of.Goals as goal

pub returns-then-kept-number : goal.returns-then-kept-number
returns-then-kept-number c = λ names are.
    let kept = c.args.self.now.kept in
    c.as_slice.ensures.value ∙ label_at names kept.items _ c.args.number c.index-kept.result.now (omega (arith, c.if-place-len.true, c.len.ensures, kept.ok.0)) c.index-kept.ensures c.if-kept-number.true are
