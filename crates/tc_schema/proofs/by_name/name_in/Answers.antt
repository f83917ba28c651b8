use Rattle.std.proofs.Common.{ap, sym, ◌∙◌, [], option_map, unwrap_or}
use Rattle.std.proofs.lemmas.Option.{slice_get-map, slice_get_past}
use Rattle.tc_schema_model.specs.SchemaText.{name_at}
use Rattle.tc_schema.specs.Places.{field_counted}
use Rattle.tc_schema.proofs.PlaceViews.{field_parts}
use Rattle.tc_schema.proofs.FieldsByName.{field_there}
use Rattle.tc_schema.proofs.by_name.name_in.Goals as goal

pub returns-in-Some : goal.returns-in-Some
returns-in-Some c =
    let names = c.args.names.now in
    let field = c.in-Some.field.now in
    let here = c.in-Some.ensures.lookup in
    c.name_of.ensures ∙ ap (λ f. name_at names f.0) (sym (field_parts field))
    ∙ ap (λ o. unwrap_or (option_map (λ f. name_at names f.0) o) []) (sym (field_there c.args.fields.now c.args.place field here.3.0 here.1))

pub returns-in-None : goal.returns-in-None
returns-in-None c =
    let past = slice_get-map field_counted c.args.fields.now c.args.place ∙ ap (option_map field_counted) (slice_get_past c.args.fields.now c.args.place c.in-None.ensures.lookup.3) in
    ap (λ o. unwrap_or (option_map (λ f. name_at c.args.names.now f.0) o) []) (sym past)
