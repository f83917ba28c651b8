use Rattle.std.proofs.Common.{rules, ◌≡◌, ◌++◌, ◌∙◌, OnOk}
use Rattle.std.proofs.lemmas.Result.{on_ok_weaker}
use Rattle.tc_schema.specs.Values.{union_mark}
use Rattle.tc_schema.proofs.PlaceTexts.{union_put}
use Rattle.tc_schema.proofs.text.put_union_front.Goals as goal

pub returns : goal.returns
returns c =
    let put : OnOk c.extend_from_slice.result (c.extend_from_slice.new.self.items ≡ c.put_count.new.out.items ++ union_mark) = search rules in
    on_ok_weaker c.extend_from_slice.result (λ e. e ∙ union_put c.args.counts.now _ _ _ _ c.if-kinds-eq1.false c.kinds.ensures c.total.ensures.total c.in_ok-put_count.ensures) put
