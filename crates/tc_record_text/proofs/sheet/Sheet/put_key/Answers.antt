use Rattle.std.proofs.Common.{◌∙◌, ◌++◌, codes, sym, ap, append_assoc}
use Rattle.std.proofs.lemmas.Result.{on_ok_weaker}
use Rattle.json.specs.Print.{quoted}
use Rattle.serde_json.specs.Data.{number, unsigned}
use Rattle.serde_json.specs.Written.{compact_text, comma_if}
use Rattle.tc_record_text.proofs.StagedTexts.{number_put}
use Rattle.tc_record_text.proofs.sheet.Sheet.put_key.Goals as goal

pub returns : goal.returns
returns c =
    let inside = c.self.inside in
    let digits = compact_text (number (unsigned c.args.key)) in
    on_ok_weaker c.put_unsigned.result
    (λ e. e ∙ sym (append_assoc inside.text.items inside.waiting digits) ∙ ap (λ s. s ++ digits) (c.self.view_is ∙ c.in_ok-put_name.ensures)
    ∙ number_put c.args.self.now (comma_if c.args.later) (quoted (codes "id")) digits)
    c.put_unsigned.ensures
