use Rattle.std.proofs.Common.{◌++◌, codes, ap, ◌∙◌}
use Rattle.std.proofs.lemmas.Result.{on_ok_weaker}
use Rattle.tc_command.specs.Refusals.{refusal_of}
use Rattle.tc_command.proofs.ReplyLemmas.{refused_line}
use Rattle.tc_command.proofs.texts.put_refused.Goals as goal

pub returns : goal.returns
returns c =
    let named = ap (λ name. codes "{\"refused\":\"" ++ (name ++ codes "\"}\n")) (c.as_bytes.ensures.value ∙ c.name.ensures) in
    on_ok_weaker c.put_three.result (λ e. e ∙ ap (λ line. c.args.out.now.items ++ line) (named ∙ refused_line (refusal_of c.args.refusal))) c.put_three.ensures
