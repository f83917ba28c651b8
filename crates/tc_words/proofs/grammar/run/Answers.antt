use Rattle.std.proofs.Common.{ap}
use Rattle.std.proofs.lemmas.Result.{IfOk-weaker}
use Rattle.tc_words.proofs.GrammarLemmas.{IsLocal, with_option}
use Rattle.tc_words.proofs.grammar.run.Goals as goal

pub returns : goal.returns
returns c =
    let one = with_option _ _ _ _ _ c.in_ok-arg.ensures c.option.ensures.local c.option.ensures.rule (c.new.ensures.app, c.new.ensures.local) in
    let two = with_option _ _ _ _ _ c.in_ok-arg-2.ensures c.option-2.ensures.local c.option-2.ensures.rule one in
    let three = with_option _ _ _ _ _ c.in_ok-arg-3.ensures c.option-3.ensures.local c.option-3.ensures.rule two in
    let four = with_option _ _ _ _ _ c.in_ok-arg-4.ensures c.option-4.ensures.local c.option-4.ensures.rule three in
    let five = with_option _ _ _ _ _ c.in_ok-arg-5.ensures c.option-5.ensures.local c.option-5.ensures.rule four in
    let six = with_option _ _ _ _ _ c.in_ok-arg-6.ensures c.option-6.ensures.local c.option-6.ensures.rule five in
    let all = IfOk-weaker c.arg-7.result _ (IsLocal _)
    (λ m h. with_option _ m c.option-7.result _ _ h c.option-7.ensures.local c.option-7.ensures.rule six) c.arg-7.ensures in
    record {
      local = IfOk-weaker c.arg-7.result _ _ (λ m h. h.1) all;
      shape = IfOk-weaker c.arg-7.result _ _ (λ m h. ap (λ a. a.top) h.0) all;
    }
