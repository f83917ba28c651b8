-- A schema that is to be written.
use Rattle.tc_schema_model.specs.Counted.{Counted}
use Rattle.tc_component.specs.declared.kept_schema.Counts.{Counts}
use Rattle.tc_component.specs.declared.kept_schema.Counts.TheVariants.{Of, Kept}

abbrev pub counts_of : Counts → Counted
counts_of (Of schema) = schema.now
counts_of (Kept kept) = kept.now
