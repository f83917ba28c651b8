use Rattle.std.proofs.Common.{◌≡◌, ◌++◌, ◌∙◌, ap, sym, map, flat_map, option_to_list, length}
use Rattle.std.proofs.lemmas.Result.{on_ok_weaker}
use Rattle.tc_request_model.specs.Paths.{reached}
use Rattle.tc_record.specs.Building.{document_read}
use Rattle.tc_compact.specs.Meant.{tokens_meant}
use Rattle.tc_command.specs.Asks.{hop_of}
use Rattle.tc_record_text.specs.Listed.{listed, row_front}
use Rattle.tc_record_text.proofs.RowTexts.{row_text}
use Rattle.tc_record_text.proofs.rows.put_row_of_tokens.Goals as goal

pub returns : goal.returns
returns c =
    let ds = flat_map (reached (map hop_of c.args.hops.now)) (option_to_list (document_read (tokens_meant c.args.names.now c.args.tokens))) in
    let front = c.args.out.now.items ++ row_front c.args.key in
    let is : c.put_reached.new.out.items ≡ front ++ listed ds = c.in_ok-put_reached.ensures ∙ ap (λ s. s ++ listed ds) c.in_ok-put_front.ensures in
    let row = row_text c.args.out.now.items c.put_reached.new.out.items c.args.key ds is (λ same. c.if-as_slice-begun.false (ap length (c.as_slice.ensures.value ∙ same ∙ sym c.in_ok-put_front.ensures ∙ sym c.as_slice-begun.ensures.value))) in
    on_ok_weaker c.put_end.result (λ e. e ∙ row.2) (c.put_end.ensures row.0 row.1)
