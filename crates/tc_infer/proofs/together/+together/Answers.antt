use Rattle.std.proofs.Common.{◌≡◌, ◌==◌, false, sym, ap, ◌∙◌, subst, arith, rules}
use Rattle.std.proofs.lemmas.List.{length-map}
use Rattle.tc_schema_model.specs.Counted.{IsOrdered, counted, field_at, total}
use Rattle.tc_schema_model.proofs.FieldLaws.{field_ordered}
use Rattle.tc_schema.specs.Places.{place_counted, below_counted, fields_counted}
use Rattle.tc_schema.specs.declared.place.Field.TheFolds.{the_lemmas as fold_lemmas}
use Rattle.tc_schema.specs.declared.place.Field.TheViews.{out-Node, out-Field, the_lemmas as view_lemmas}
use Rattle.tc_schema.proofs.FieldViews.{counted_at}
use Rattle.tc_schema.proofs.PlaceViews.{place_parts, field_parts}
use Rattle.tc_infer.specs.Together.{do_fit, do_all_fit}
use Rattle.tc_infer.proofs.TogetherLaws.{below_decides, some_counted}
use Rattle.tc_infer.proofs.together.+together.Goals as goal

pub does_field_fit-do_places_fit-requires : goal.does_field_fit-do_places_fit-requires
does_field_fit-do_places_fit-requires t c = (
  search (rules, view_lemmas, fold_lemmas),
  subst IsOrdered (sym (ap place_counted c.deref-in-Ok.ensures ∙ counted_at c.args.others.now c.in-Ok.at _ (out-Field c.args.one.now).number _ c.in-Ok.ensures.found.here))
      (field_ordered 0 (out-Field c.args.one.now).number (fields_counted c.args.others.now) c.requires.ordered),
)

pub does_field_fit-returns-in-Ok : goal.does_field_fit-returns-in-Ok
does_field_fit-returns-in-Ok t c =
    let there = ap place_counted c.deref-in-Ok.ensures ∙ counted_at c.args.others.now c.in-Ok.at _ (out-Field c.args.one.now).number _ c.in-Ok.ensures.found.here in
    c.do_places_fit.ensures
    ∙ ap (do_fit (place_counted c.deref.result.now)) there
    ∙ ap (λ p. do_fit p (field_at (out-Field c.args.one.now).number (fields_counted c.args.others.now))) (ap place_counted c.deref.ensures)
    ∙ ap (λ f. do_fit f.1 (field_at f.0 (fields_counted c.args.others.now))) (sym (field_parts c.args.one.now))

pub does_field_fit-bounds-others-at : goal.does_field_fit-bounds-others-at
does_field_fit-bounds-others-at t c = simp length-map at c.in-Ok.ensures.found.inside

pub do_places_fit-returns-then-do_items_below_fit : goal.do_places_fit-returns-then-do_items_below_fit
do_places_fit-returns-then-do_items_below_fit t c =
    let one = out-Node c.args.one.now in
    let other = out-Node c.args.other.now in
    let fields : c.do_fields_fit.result ≡ do_all_fit (fields_counted one.fields.items) (fields_counted other.fields.items) =
    c.do_fields_fit.ensures ∙ ap (λ fs. do_all_fit (fields_counted fs) (fields_counted c.as_slice-then-do_items_below_fit.result.now)) c.as_slice.ensures.value
    ∙ ap (λ fs. do_all_fit (fields_counted one.fields.items) (fields_counted fs)) c.as_slice-then-do_items_below_fit.ensures.value in
    let some : (total other.counts == 0) ≡ false = some_counted (total other.counts) (omega (arith, c.if-total-eq0.false, c.total-total.ensures.total)) in
    fields
    ∙ sym (below_decides one.counts (below_counted one.item) (fields_counted one.fields.items) other.counts (below_counted other.item) (fields_counted other.fields.items) some
    (omega (arith, c.if-total.false, c.total.ensures.total, c.total-total.ensures.total, c.total-total.ensures.bounded)) (sym c.do_items_below_fit.ensures ∙ c.if-do_items_below_fit.true))
    ∙ ap (λ e. do_fit e (counted other.counts (below_counted other.item) (fields_counted other.fields.items))) (sym (place_parts c.args.one.now))
    ∙ ap (do_fit (place_counted c.args.one.now)) (sym (place_parts c.args.other.now))
