use Rattle.std.proofs.Common.{codes}
use Rattle.std.proofs.lemmas.Result.{on_ok_weaker}
use Rattle.tc_request_model.specs.Rendered.{texts_array}
use Rattle.tc_command.proofs.ReplyLemmas.{added, three_pieces}
use Rattle.tc_command.proofs.document_lines.put_schemas_line.Goals as goal

pub returns : goal.returns
returns c =
    on_ok_weaker c.extend_from_slice-2.result
    (λ last. three_pieces _ _ _ _ (codes "{\"schemas\":") (texts_array c.args.schemas.now) (codes "}\n") c.in_ok-extend_from_slice.ensures.items c.in_ok-put_schemas.ensures last)
    (added c.extend_from_slice-2.result _ _ _ c.extend_from_slice-2.ensures.items)
