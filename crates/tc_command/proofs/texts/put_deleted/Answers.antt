use Rattle.std.proofs.Common.{◌++◌, codes, ap, sym, ◌∙◌}
use Rattle.std.proofs.lemmas.Result.{on_ok_weaker}
use Rattle.tc_request_model.specs.Reply.{reply_line, deleted}
use Rattle.tc_command.proofs.ReplyLemmas.{found_line, missing_line}
use Rattle.tc_command.proofs.texts.put_deleted.Goals as goal

pub returns-then-found : goal.returns-then-found
returns-then-found c =
    let shown = ap (λ id. codes "{\"found\":true,\"id\":" ++ (id ++ codes "}\n")) (c.as_bytes-id.ensures.value ∙ c.format.ensures.text) in
    let same = ap (λ b. reply_line (deleted c.args.id b)) (sym c.if-found.true) in
    on_ok_weaker c.put_three.result (λ e. e ∙ ap (λ line. c.args.out.now.items ++ line) (shown ∙ found_line c.args.id ∙ same)) c.put_three.ensures

pub returns-else-found : goal.returns-else-found
returns-else-found c =
    let shown = ap (λ id. codes "{\"found\":false,\"id\":" ++ (id ++ codes "}\n")) (c.as_bytes-id.ensures.value ∙ c.format.ensures.text) in
    let same = ap (λ b. reply_line (deleted c.args.id b)) (sym c.if-found.false) in
    on_ok_weaker c.put_three-else-found.result (λ e. e ∙ ap (λ line. c.args.out.now.items ++ line) (shown ∙ missing_line c.args.id ∙ same)) c.put_three-else-found.ensures
