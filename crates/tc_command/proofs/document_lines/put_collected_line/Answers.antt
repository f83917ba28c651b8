use Rattle.std.proofs.Common.{codes}
use Rattle.std.proofs.lemmas.Result.{on_ok_weaker}
use Rattle.serde_json.specs.Data.{array}
use Rattle.serde_json.specs.Written.{compact_text}
use Rattle.tc_request_model.specs.Reply.{counts_data}
use Rattle.tc_request_model.specs.Rendered.{rows_array}
use Rattle.tc_command.proofs.ReplyLemmas.{added, five_pieces}
use Rattle.tc_command.proofs.document_lines.put_collected_line.Goals as goal

pub returns : goal.returns
returns c =
    let rows = rows_array c.args.rows.now in
    let counts = compact_text (array (counts_data c.args.upto.now)) in
    on_ok_weaker c.extend_from_slice-3.result
    (λ last. five_pieces _ _ _ _ _ _ (codes "{\"rows\":") rows (codes ",\"upto\":") counts (codes "}\n") c.in_ok-extend_from_slice.ensures.items c.in_ok-put_rows.ensures
    c.in_ok-extend_from_slice-2.ensures.items c.in_ok-put_counts.ensures last)
    (added c.extend_from_slice-3.result _ _ _ c.extend_from_slice-3.ensures.items)
