use Rattle.tc_schema_model.proofs.FieldLaws.{ordered_from_canonical}
use Rattle.tc_schema.specs.Places.{place_counted, most_names}
use Rattle.tc_schema.proofs.whole.Schema.count_at.Goals as goal

pub count_from-requires : goal.count_from-requires
count_from-requires c = ordered_from_canonical most_names (place_counted c.self.inside.root) c.self.invariant
