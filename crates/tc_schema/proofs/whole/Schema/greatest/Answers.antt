use Rattle.std.proofs.Common.{ap, ◌∙◌, arith}
use Rattle.tc_schema_model.specs.Bounds.{greatest_total}
use Rattle.tc_schema_model.proofs.BoundLaws.{total_bound}
use Rattle.tc_schema.proofs.whole.Schema.greatest.Goals as goal

pub returns-clause-bound : goal.returns-clause-bound
returns-clause-bound c = λ names path. omega (arith, total_bound names c.args.self.now path, c.greatest_count.ensures ∙ ap greatest_total c.root.ensures.counted)
