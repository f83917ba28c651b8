use Rattle.std.proofs.Common.{sym, ap, ◌∙◌}
use Rattle.serde_json.specs.Read.{read}
use Rattle.tc_command.proofs.Utf8Lemmas.{json_of-utf8, json_of-not_utf8}
use Rattle.tc_command.proofs.line.value_of.Goals as goal

pub returns-in_default : goal.returns-in_default
returns-in_default c = sym (json_of-not_utf8 c.args.line.now c.in_default.ensures.cases.0)

pub returns-in-Ok-from_str : goal.returns-in-Ok-from_str
returns-in-Ok-from_str c =
    let h = c.in-Ok.ensures.cases in
    sym (json_of-utf8 c.args.line.now h.1 ∙ ap read (sym h.0) ∙ c.in-Ok-from_str.ensures.ok)
