use Rattle.std.proofs.Common.{◌++◌, ◌∙◌, ap}
use Rattle.serde_json.specs.Written.{compact_text}
use Rattle.tc_request_model.specs.Reply.{with_id}
use Rattle.tc_record_text.proofs.keyed.text_of_known.Goals as goal

pub returns : goal.returns
returns c = λ d is.
    let text = compact_text (with_id c.args.key d) in
    c.of.ensures.same ∙ c.in_ok-put_document.ensures d is ∙ ap (λ bytes. bytes ++ text) c.in_ok-text.ensures.items
