use Rattle.std.proofs.Common.{◌∙◌, length, sym, subst}
use Rattle.tc_model.specs.Limits.{max_line}
use Rattle.tc_request_model.specs.Light.{IsLight}
use Rattle.tc_request_model.proofs.LineWeight.{request_in_line, request_weight}
use Rattle.tc_server.proofs.answer.Asked.of.Goals as goal

pub invariant_of-result : goal.invariant_of-result
invariant_of-result c = record {
  for_part = c.action_of.ensures.for_part c.in-Ok.ensures.lawful;
  light = subst (IsLight max_line) (c.in-Ok.ensures.asked ∙ sym c.action_of.ensures.request) (request_weight c.args.line.now);
}

pub returns-in-Ok-clause-light : goal.returns-in-Ok-clause-light
returns-in-Ok-clause-light c =
    let line = c.args.line.now in
    subst (IsLight (length line)) (c.in-Ok.ensures.asked ∙ sym c.action_of.ensures.request) (request_in_line line)
