use Rattle.std.proofs.Common.{IfSome, sym, ◌∙◌, subst}
use Rattle.serde_json.specs.View.{view}
use Rattle.tc_command.specs.Forms.{HasWholePath}
use Rattle.tc_command.proofs.FormLemmas.{form_of-whole}
use Rattle.tc_command.proofs.line.command_in.Goals as goal

pub command_of-requires : goal.command_of-requires
command_of-requires c =
    subst (λ f. IfSome f HasWholePath) (sym c.in-Some.ensures) (form_of-whole (view c.args.value.now) (sym c.is_whole.ensures ∙ c.if-is_whole.true))
