use Rattle.std.proofs.Common.{◌≡◌, ◌++◌, drop}
use Rattle.tc_request_model.specs.Rendered.{texts_listed, texts_array}
use Rattle.tc_command.proofs.document_lines.put_schemas.Given as goal

abbrev pub invariant-loop-text : goal.invariant-loop-text
invariant-loop-text l = l.out.items ++ texts_listed l.later (drop l.text-index l.texts) ≡ l.fn.out.items ++ texts_array l.texts
