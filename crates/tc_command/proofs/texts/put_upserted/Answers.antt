use Rattle.std.proofs.Common.{◌++◌, codes, ap, sym, ◌∙◌}
use Rattle.std.proofs.lemmas.Result.{on_ok_weaker}
use Rattle.tc_request_model.specs.Reply.{reply_line, upserted}
use Rattle.tc_command.proofs.ReplyLemmas.{replaced_line, inserted_line}
use Rattle.tc_command.proofs.texts.put_upserted.Goals as goal

pub returns-then-replaced : goal.returns-then-replaced
returns-then-replaced c =
    let shown = ap (λ id. codes "{\"id\":" ++ (id ++ codes ",\"replaced\":true}\n")) (c.as_bytes-id.ensures.value ∙ c.format.ensures.text) in
    let same = ap (λ b. reply_line (upserted c.args.id b)) (sym c.if-replaced.true) in
    on_ok_weaker c.put_three.result (λ e. e ∙ ap (λ line. c.args.out.now.items ++ line) (shown ∙ replaced_line c.args.id ∙ same)) c.put_three.ensures

pub returns-else-replaced : goal.returns-else-replaced
returns-else-replaced c =
    let shown = ap (λ id. codes "{\"id\":" ++ (id ++ codes ",\"replaced\":false}\n")) (c.as_bytes-id.ensures.value ∙ c.format.ensures.text) in
    let same = ap (λ b. reply_line (upserted c.args.id b)) (sym c.if-replaced.false) in
    on_ok_weaker c.put_three-else-replaced.result (λ e. e ∙ ap (λ line. c.args.out.now.items ++ line) (shown ∙ inserted_line c.args.id ∙ same)) c.put_three-else-replaced.ensures
