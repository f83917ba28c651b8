use Rattle.std.proofs.Common.{drop, map, sym, ◌∙◌, ap}
use Rattle.serde_json.specs.View.{members_view}
use Rattle.tc_request_model.specs.Request.{names_are}
use Rattle.tc_command.proofs.FormLemmas.{names_are-none}
use Rattle.tc_command.proofs.forms.names_are.Goals as goal

pub returns-in-None : goal.returns-in-None
returns-in-None c =
    let i = c.loop-name.name-index in
    let names = c.args.names.now in
    names_are-none names i c.loop-name-test.true
    ∙ ap (λ es. names_are (map (λ n. n.now) (drop i names)) (members_view es)) (sym c.in-None.ensures.steps.0)
    ∙ c.loop-name.invariant
