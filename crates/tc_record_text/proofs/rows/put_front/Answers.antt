use Rattle.std.proofs.Common.{◌++◌, ◌∷◌, [], ◌∙◌, codes, ap}
use Rattle.std.proofs.lemmas.Result.{on_ok_weaker}
use Rattle.serde_json.specs.Written.{compact_text}
use Rattle.tc_request_model.specs.Reply.{count}
use Rattle.tc_record_text.proofs.RowTexts.{front_is}
use Rattle.tc_record_text.proofs.rows.put_front.Goals as goal

pub returns : goal.returns
returns c =
    let id = compact_text (count c.args.key) in
    let two = c.in_ok-put_unsigned.ensures ∙ ap (λ s. s ++ id) c.in_ok-extend_from_slice.ensures.items in
    let three = c.in_ok-extend_from_slice-2.ensures.items ∙ ap (λ s. s ++ codes ",\"values\":") two in
    on_ok_weaker c.put_mark.result (λ e. e ∙ ap (λ s. s ++ 91 ∷ []) three ∙ front_is c.args.out.now.items id) c.put_mark.ensures
