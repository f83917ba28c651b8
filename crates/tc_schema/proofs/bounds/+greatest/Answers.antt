use Rattle.std.proofs.Common.{ap, ◌∙◌, arith}
use Rattle.tc_schema_model.specs.Bounds.{greatest_total, greatest_of_fields}
use Rattle.tc_schema.specs.Places.{fields_counted}
use Rattle.tc_schema.proofs.PlaceViews.{place_parts}
use Rattle.tc_schema.proofs.bounds.+greatest.Goals as goal

pub greatest_count-returns : goal.greatest_count-returns
greatest_count-returns t c =
    let fields = c.greatest_in.ensures ∙ ap (λ fs. greatest_of_fields (fields_counted fs)) c.as_slice.ensures.value in
    let whole = ap greatest_total (place_parts c.args.place.now) in
    omega (arith, c.max.ensures, c.total.ensures.total, c.max-below.ensures, c.greatest_of_item.ensures, fields, whole)
