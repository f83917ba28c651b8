use Rattle.std.proofs.Common.{◌≡◌, true, not, length, inl, inr, refl, sym, ap, ◌∙◌, subst, arith}
use Rattle.tc_schema_model.specs.Counted.{held, field_at, IsCanonical}
use Rattle.tc_schema_model.proofs.FieldLaws.{held_canonical}
use Rattle.tc_schema.specs.Places.{place_counted, below_counted, fields_counted}
use Rattle.tc_schema.specs.declared.place.Field.TheViews.{out-Node}
use Rattle.tc_difference.specs.Differences.{IsFirstBetween}
use Rattle.tc_difference.specs.Comparing.{met_meant, IsCompared, IsLeastBelow, is_wanted}
use Rattle.tc_difference.proofs.FieldsWalk.{further}
use Rattle.tc_difference.proofs.LeastField.{found_there}
use Rattle.tc_difference.proofs.NodeParts.{canonical_parts, places_of_parts, counters_differ, items_differ, fields_differ, nothing_differs}
use Rattle.tc_difference.proofs.PlaceSizes.{fewer_below_items}
use Rattle.tc_difference.proofs.comparing.+comparing.Goals as goal
use Rattle.tc_difference.proofs.comparing.+comparing.Goals.{compare_items-else-is_none-via-then-is_none+else-is_none-2, compare_items-else-is_none-via-else-is_none}

pub compare-returns-in-Some : goal.compare-returns-in-Some
compare-returns-in-Some t c =
    counters_differ c.args.names.now c.args.kept.now c.args.counted.now c.in-Some.kind (record { back = c.new.result; kind = c.in-Some.kind; kept = c.of_kind.result; counted = c.of_kind-in-Some.result })
    c.in-Some.ensures c.new.ensures.items refl c.of_kind.ensures.counter c.of_kind-in-Some.ensures.counter

pub compare-compare_items-requires : goal.compare-compare_items-requires
compare-compare_items-requires t c =
    let limit = length c.args.names.now in
    let kept = c.args.kept.now in
    let counted = c.args.counted.now in
    (omega (arith, c.decreases, places_of_parts kept, places_of_parts counted), ((canonical_parts limit kept c.requires.kept).0, ((canonical_parts limit counted c.requires.counted).0, (c.requires.empty, c.requires.distinct))))

pub compare-returns-in-Some-2 : goal.compare-returns-in-Some-2
compare-returns-in-Some-2 t c =
    let names = c.args.names.now in
    let kept = c.args.kept.now in
    let counted = c.args.counted.now in
    let told = subst (IsCompared names (held (below_counted (out-Node kept).item)) (held (below_counted (out-Node counted).item))) c.in-Some-2.is c.in_ok-met.ensures in
    items_differ names kept counted c.in_default.ensures c.in-Some-2.met c.in_ok-stepped.field-0 told (c.in_ok-stepped.ensures names)

pub compare-returns-in_ok-stepped-in-Some-3 : goal.compare-returns-in_ok-stepped-in-Some-3
compare-returns-in_ok-stepped-in-Some-3 t c =
    let names = c.args.names.now in
    let kept = c.args.kept.now in
    let counted = c.args.counted.now in
    let items = subst (IsCompared names (held (below_counted (out-Node kept).item)) (held (below_counted (out-Node counted).item))) c.in_default-2.is c.in_ok-met.ensures in
    let least = subst (IsLeastBelow names (length names) (fields_counted c.as_slice.result.now) (fields_counted c.as_slice-2.result.now)) c.in-Some-3.is c.in_ok-least.ensures in
    fields_differ names kept counted c.in_default.ensures items c.as_slice.result.now c.as_slice-2.result.now c.as_slice.ensures.value c.as_slice-2.ensures.value
    c.in-Some-3.least c.in_ok-stepped-in-Some-3.field-0 c.requires.distinct least (c.in_ok-stepped-in-Some-3.ensures names)

pub compare-returns-in-None : goal.compare-returns-in-None
compare-returns-in-None t c =
    let names = c.args.names.now in
    let kept = c.args.kept.now in
    let counted = c.args.counted.now in
    let items = subst (IsCompared names (held (below_counted (out-Node kept).item)) (held (below_counted (out-Node counted).item))) c.in_default-2.is c.in_ok-met.ensures in
    let least = subst (IsLeastBelow names (length names) (fields_counted c.as_slice.result.now) (fields_counted c.as_slice-2.result.now)) c.in-None.is c.in_ok-least.ensures in
    nothing_differs names kept counted c.in_default.ensures items c.as_slice.result.now c.as_slice-2.result.now c.as_slice.ensures.value c.as_slice-2.ensures.value least

pub compare_fields-loop-number-preserved : goal.compare_fields-loop-number-preserved
compare_fields-loop-number-preserved t c =
    let l = c.loop-number in
    further c.args.names.now (fields_counted c.args.kept.now) (fields_counted c.args.counted.now) (fields_counted l.ones.now) (fields_counted l.others.now) l.least l.invariant c.in-Some.number c.in_ok-least.least
    (place_counted c.place_in_front-one.result.now) (place_counted c.place_in_front-other.result.now) (fields_counted c.after_front-ones.result.now) (fields_counted c.after_front-others.result.now)
    (sym c.next_number.ensures ∙ c.in-Some.is) c.place_in_front-one.ensures c.place_in_front-other.ensures c.after_front-ones.ensures c.after_front-others.ensures c.in_ok-least.ensures

pub compare_items-compare-requires : goal.compare_items-compare-requires
compare_items-compare-requires t c =
    let limit = length c.args.names.now in
    let kept = c.args.kept.now in
    let counted = c.args.counted.now in
    let one = c.place_or.ensures in
    let other = c.place_or-2.ensures in
    let fewer = fewer_below_items kept counted (place_counted c.place_or.result.now) (place_counted c.place_or-2.result.now) one other (elim c.else-is_none.branch [
      | compare_items-else-is_none-via-then-is_none+else-is_none-2 w ↦ inr (w.is_none-then-is_none.ensures ∙ ap not w.if-is_none-2.false)
      | compare_items-else-is_none-via-else-is_none w ↦ inl (c.is_none.ensures ∙ ap not w.if-is_none.false)
    ]) in
    (omega (arith, c.decreases, fewer), (subst (IsCanonical limit) (sym one) (held_canonical limit (below_counted kept) c.requires.kept), (subst (IsCanonical limit) (sym other) (held_canonical limit (below_counted counted) c.requires.counted), (c.requires.empty, c.requires.distinct))))

pub lesser_of-returns-in-Some : goal.lesser_of-returns-in-Some
lesser_of-returns-in-Some t c = λ fs gs one other is.
    let names = c.args.names.now in
    let kept = place_counted c.args.kept.now in
    let counted = place_counted c.args.counted.now in
    let met = c.in-Some.met in
    let wanted : is_wanted names c.args.number c.args.least ≡ true = let told = c.is_wanted.ensures in let is = c.if-not-is_wanted.false in cc in
    let told = subst (IsCompared names kept counted) c.in-Some.is c.in_ok-met.ensures in
    let there = subst (λ e. IsFirstBetween names (field_at c.args.number fs) e (met_meant names met)) (sym other) (subst (λ d. IsFirstBetween names d counted (met_meant names met)) (sym one) told) in
    found_there names fs gs c.args.number met c.args.least wanted there is
