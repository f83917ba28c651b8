use Rattle.std.proofs.Common.{sym, ap, ◌∙◌, subst}
use Rattle.std.proofs.lemmas.List.{length-map}
use Rattle.tc_schema_model.specs.Counted.{IsOrdered}
use Rattle.tc_schema_model.proofs.FieldLaws.{field_ordered}
use Rattle.tc_schema.specs.Places.{place_counted, fields_counted}
use Rattle.tc_schema.proofs.FieldViews.{counted_at}
use Rattle.tc_schema.proofs.paths.field_numbered.Goals as goal

pub returns-in-Ok-clause-there : goal.returns-in-Ok-clause-there
returns-in-Ok-clause-there c = ap place_counted c.deref.ensures ∙ counted_at c.args.fields.now c.in-Ok.at _ c.args.number _ c.in-Ok.ensures.found.here

pub returns-in-Ok-clause-ordered : goal.returns-in-Ok-clause-ordered
returns-in-Ok-clause-ordered c =
    subst IsOrdered (sym (ap place_counted c.deref.ensures ∙ counted_at c.args.fields.now c.in-Ok.at _ c.args.number _ c.in-Ok.ensures.found.here))
    (field_ordered 0 c.args.number (fields_counted c.args.fields.now) c.requires)

pub bounds-fields-at : goal.bounds-fields-at
bounds-fields-at c = simp length-map at c.in-Ok.ensures.found.inside

pub returns-in-Err-clause-none : goal.returns-in-Err-clause-none
returns-in-Err-clause-none c = c.in-Err.ensures.missing.none
