use Rattle.std.proofs.Common.{◌++◌, ◌∙◌, ap}
use Rattle.std.proofs.lemmas.Result.{on_ok_weaker}
use Rattle.serde_json.specs.Written.{compact_text}
use Rattle.tc_schema_model.proofs.TextLaws.{text_of_documents}
use Rattle.tc_schema.proofs.whole.Schema.put_text.Goals as goal

pub returns-clause-documents : goal.returns-clause-documents
returns-clause-documents c =
    on_ok_weaker c.put_tree.result
    (λ e docs stands. e ∙ ap (λ d. c.args.out.now.items ++ compact_text d) (text_of_documents c.args.names.now c.args.self.now docs stands))
    c.put_tree.ensures
