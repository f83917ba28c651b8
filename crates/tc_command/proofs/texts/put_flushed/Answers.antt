use Rattle.std.proofs.Common.{◌++◌, ◌∙◌, ap}
use Rattle.std.proofs.lemmas.Result.{on_ok_weaker}
use Rattle.tc_command.proofs.ReplyLemmas.{flushed_line}
use Rattle.tc_command.proofs.texts.put_flushed.Goals as goal

pub returns : goal.returns
returns c = on_ok_weaker c.put_three.result (λ e. e ∙ ap (λ line. c.args.out.now.items ++ line) flushed_line) c.put_three.ensures
