use Rattle.std.proofs.Common.{ap, sym, ◌∙◌}
use Rattle.tc_schema_model.specs.Bounds.{has_numbers_below}
use Rattle.tc_schema_model.proofs.BoundLaws.{canonical_within, numbers_within}
use Rattle.tc_schema.specs.Places.{most_names}
use Rattle.tc_schema.proofs.whole.Schema.numbers_below.Goals as goal

pub returns : goal.returns
returns c =
    let limit = c.args.limit in
    let test = c.is_below.ensures ∙ ap (has_numbers_below limit) c.root.ensures.counted in
    record {
      canonical = (λ below. canonical_within limit most_names c.args.self.now c.root.ensures.canonical (sym test ∙ below), λ canonical. test ∙ numbers_within limit c.args.self.now canonical);
    }
