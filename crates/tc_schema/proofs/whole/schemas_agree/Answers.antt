use Rattle.std.proofs.Common.{sym, ◌∙◌, subst}
use Rattle.tc_schema_model.specs.Stands.{StandsFor}
use Rattle.tc_schema_model.proofs.CountingLaws.{one_schema}
use Rattle.tc_schema_model.proofs.TextLaws.{text_of_documents}
use Rattle.tc_schema.proofs.whole.schemas_agree.Goals as goal

pub returns-clause-same : goal.returns-clause-same
returns-clause-same c docs alike one other =
    one_schema c.args.names.now c.args.one.now c.args.other.now docs one (subst (λ names. StandsFor names c.args.other.now docs) (sym alike) other)

pub returns-clause-named : goal.returns-clause-named
returns-clause-named c docs one other =
    text_of_documents c.args.names.now c.args.one.now docs one ∙ sym (text_of_documents c.args.other_names.now c.args.other.now docs other)
