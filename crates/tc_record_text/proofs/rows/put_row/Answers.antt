use Rattle.std.proofs.Common.{◌≡◌, ◌++◌, ◌∙◌, Some, None, map, flat_map, option_to_list, ap, append-nil}
use Rattle.std.proofs.lemmas.Result.{on_ok_weaker}
use Rattle.tc_request_model.specs.Paths.{reached}
use Rattle.tc_request_model.specs.Rows.{row_of}
use Rattle.tc_record.specs.Building.{document_read}
use Rattle.tc_compact.specs.Meant.{tokens_meant}
use Rattle.tc_command.specs.Asks.{hop_of}
use Rattle.tc_record_text.specs.Listed.{row_texts}
use Rattle.tc_record_text.proofs.rows.put_row.Goals as goal

pub returns : goal.returns
returns c = λ d is.
    let names = c.args.names.now in
    let hops = map hop_of c.as_slice.result.now in
    let old = c.args.out.now.items in
    let meant : document_read (tokens_meant names c.cursor.result) ≡ Some d = ap (λ ts. document_read (tokens_meant names ts)) c.cursor.ensures ∙ c.document_meant.ensures.read c.args.of names d c.bytes-bytes.ensures.spells is in
    let all = ap (λ o. flat_map (reached hops) (option_to_list o)) meant ∙ append-nil (reached hops d) in
    rw (← c.as_slice.ensures) (on_ok_weaker c.put_row_of_tokens.result (λ e. e ∙ ap (λ ds. old ++ row_texts (row_of None c.args.key ds)) all) c.put_row_of_tokens.ensures)
