use Rattle.std.proofs.Common.{◌≡◌, ◌+◌, ◌≤◌, map, drop, set, refl, sym, ap, ◌∙◌, subst, rules}
use Rattle.std.proofs.lemmas.List.{length-map}
use Rattle.std.proofs.lemmas.Result.{IfOk-weaker}
use Rattle.tc_schema_model.specs.Counted.{no_fields, a_field, field_at, IsCanonical, AreFieldsCanonical, AreFieldsOrdered, HasSmallCounters, FieldsHaveSmallCounters}
use Rattle.tc_schema_model.proofs.AddedLaws.{field_canonical}
use Rattle.tc_schema_model.proofs.FieldLaws.{fields_ordered}
use Rattle.tc_schema.specs.Places.{place_counted, field_counted, fields_counted, most_names}
use Rattle.tc_schema.specs.Search.{IsPlaceOf, IsGapFor}
use Rattle.tc_schema.specs.declared.place.Field.TheFolds.{the_lemmas as fold_lemmas}
use Rattle.tc_schema.specs.declared.place.Field.TheViews.{out-Node, roll-Node, out-roll-Node, out-Field, roll-Field, the_lemmas as view_lemmas}
use Rattle.tc_schema.proofs.PlaceViews.{field_parts}
use Rattle.tc_schema.proofs.FieldViews.{counted_at}
use Rattle.tc_schema.proofs.FieldWrites.{number_at, written_field}
use Rattle.tc_audit.specs.Times.{with_times, fields_with, field_with}
use Rattle.tc_audit.proofs.TimesLaws.{canonical-fields_with}
use Rattle.tc_audit.proofs.AddedParts.{fields_from, added_field, filled_field, parts_with, first_small}
use Rattle.tc_audit.proofs.times.+times.Goals as goal

-- ---- one field

pub add_field-search_fields-requires : goal.add_field-search_fields-requires
add_field-search_fields-requires t c =
    subst (λ fs. AreFieldsOrdered 0 (fields_counted fs)) (sym c.deref.ensures.value) (fields_ordered most_names 0 (fields_counted c.args.fields.now.items) c.requires.canonical)

pub add_field-add_place-requires : goal.add_field-add_place-requires
add_field-add_place-requires t c =
    let k = c.args.times in
    let f = c.args.one.now in
    let all = c.args.fields.now.items in
    let n = (out-Field f).number in
    let gs = fields_counted all in
    let found = subst (λ fs. IsPlaceOf n (map field_counted fs) c.in-Ok.at) c.deref.ensures.value c.in-Ok.ensures.found in
    let stands : place_counted c.deref_mut.result.now ≡ field_at n gs = ap place_counted c.deref_mut.ensures.value ∙ ap (λ f. place_counted (out-Field f).node.value) c.index_mut.ensures.value ∙ counted_at all c.in-Ok.at c.index_mut.result.now n (field_at n gs) found.here in
    let own : place_counted c.deref-in-Ok.result.now ≡ (field_counted f).1 = ap place_counted c.deref-in-Ok.ensures ∙ ap (λ p. p.1) (sym (field_parts f)) in
    let number : n ≡ (field_counted f).0 = ap (λ p. p.0) (sym (field_parts f)) in
    let there = stands ∙ ap (λ m. field_at m gs) number in (
      search (rules, view_lemmas, fold_lemmas),
      (
        c.requires.some,
        (
          subst (IsCanonical most_names) (sym own) c.requires.one,
          (
            subst (IsCanonical most_names) (sym stands) (field_canonical most_names 0 n gs c.requires.canonical),
            subst (λ d. HasSmallCounters (with_times k d (place_counted c.deref_mut.result.now))) (sym own) (subst (λ d. HasSmallCounters (with_times k (field_counted f).1 d)) (sym there) c.requires.small),
          ),
        ),
      ),
    )

pub add_field-returns-in-Ok : goal.add_field-returns-in-Ok
add_field-returns-in-Ok t c =
    let k = c.args.times in
    let f = c.args.one.now in
    let all = c.args.fields.now.items in
    let n = (out-Field f).number in
    let gs = fields_counted all in
    let here = c.index_mut.result.now in
    let one = place_counted (out-Field f).node.value in
    let found = subst (λ fs. IsPlaceOf n (map field_counted fs) c.in-Ok.at) c.deref.ensures.value c.in-Ok.ensures.found in
    let stands : place_counted c.deref_mut.result.now ≡ field_at n gs = ap place_counted c.deref_mut.ensures.value ∙ ap (λ f. place_counted (out-Field f).node.value) c.index_mut.ensures.value ∙ counted_at all c.in-Ok.at here n (field_at n gs) found.here in
    let own : (out-Field here).number ≡ n = ap (λ f. (out-Field f).number) c.index_mut.ensures.value ∙ number_at all c.in-Ok.at here n (field_at n gs) found.here in
    IfOk-weaker c.add_place.result
    (λ _. place_counted c.add_place.new.place ≡ with_times k (place_counted c.deref-in-Ok.result.now) (place_counted c.deref_mut.result.now))
    (λ _. fields_counted (set all c.in-Ok.at (roll-Field record { number = (out-Field here).number; node = record (out-Field here).node { value = c.add_place.new.place } })) ≡ field_with k (field_counted f) gs)
    (λ _ is.
    written_field all c.in-Ok.at n (out-Field here).number _ (with_times k one (field_at n gs)) own (is ∙ ap (λ d. with_times k d (place_counted c.deref_mut.result.now)) (ap place_counted c.deref-in-Ok.ensures) ∙ ap (with_times k one) stands)
    ∙ found.written (with_times k one (field_at n gs)) ∙ added_field k f gs)
    c.add_place.ensures

pub add_field-returns-in_ok-insert-in-Err : goal.add_field-returns-in_ok-insert-in-Err
add_field-returns-in_ok-insert-in-Err t c =
    let k = c.args.times in
    let f = c.args.one.now in
    let all = c.args.fields.now.items in
    let n = (out-Field f).number in
    let gs = fields_counted all in
    let one = place_counted (out-Field f).node.value in
    let gap = subst (λ fs. IsGapFor n (map field_counted fs) c.in-Err.gap) c.deref.ensures.value c.in-Err.ensures.missing in
    let inside = subst (λ m. c.in-Err.gap ≤ m) (length-map all field_counted) gap.inside in
    let none : place_counted c.deref_mut-in-Err.result.now ≡ field_at n gs = ap place_counted c.deref_mut-in-Err.ensures.value ∙ ap place_counted c.in_ok-node-in-Err.ensures.ok ∙ c.new.ensures ∙ sym gap.none in
    let is = c.in_ok-add_place-in-Err.ensures ∙ ap (λ d. with_times k d (place_counted c.deref_mut-in-Err.result.now)) (ap place_counted c.deref-in-Err.ensures) ∙ ap (with_times k one) none in
    ap fields_counted c.in_ok-insert-in-Err.ensures.items ∙ filled_field all c.in-Err.gap n _ (with_times k one (field_at n gs)) inside gap is ∙ added_field k f gs

-- ---- all fields

pub add_fields-add_field-requires : goal.add_fields-add_field-requires
add_fields-add_field-requires t c =
    let l = c.loop-one in
    let k = c.args.times in
    let f = c.one-item.result in
    let gs = fields_counted l.fields.items in
    let rest = fields_counted (drop (l.one-index + 1) c.args.ones.now) in
    let here = fields_from c.args.ones.now l.one-index f c.loop-one-test.true c.one-item.is in
    let ones = subst (AreFieldsCanonical most_names l.invariant.ones.0) here l.invariant.ones.1 in
    let whole = ap (λ fs. fields_with k fs gs) (sym here) ∙ l.invariant.left in
    let small = subst FieldsHaveSmallCounters (sym whole) c.requires.small in
    (search (rules, view_lemmas, fold_lemmas), (c.requires.some, (ones.3, (l.invariant.canonical, first_small k most_names l.invariant.ones.0 (field_counted f).0 (field_counted f).1 rest gs ones small))))

pub add_fields-loop-one-preserved : goal.add_fields-loop-one-preserved
add_fields-loop-one-preserved t c =
    let l = c.loop-one in
    let k = c.args.times in
    let f = c.one-item.result in
    let gs = fields_counted l.fields.items in
    let rest = fields_counted (drop (l.one-index + 1) c.args.ones.now) in
    let here = fields_from c.args.ones.now l.one-index f c.loop-one-test.true c.one-item.is in
    let ones = subst (AreFieldsCanonical most_names l.invariant.ones.0) here l.invariant.ones.1 in
    let added = c.in_ok-add_field.ensures in
    record {
      left = ap (fields_with k rest) added ∙ ap (λ fs. fields_with k fs gs) (sym here) ∙ l.invariant.left;
      ones = ((field_counted f).0 + 1, ones.4);
      canonical = subst (AreFieldsCanonical most_names 0) (sym added)
          (canonical-fields_with most_names k l.invariant.ones.0 (a_field (field_counted f).0 (field_counted f).1 no_fields) gs c.requires.some (ones.0, ones.1, ones.2, ones.3, tt) l.invariant.canonical);
    }

-- ---- the place itself

pub add_place-returns : goal.add_place-returns
add_place-returns t c =
    let k = c.args.times in
    let one = c.args.one.now in
    let p = c.args.place.now in
    let first = roll-Node record { counts = c.add_counts.new.counts; item = (out-Node p).item; fields = (out-Node p).fields } in
    let second = roll-Node record { counts = (out-Node first).counts; item = c.add_items.new.below; fields = (out-Node first).fields } in
    let made = roll-Node record { counts = (out-Node second).counts; item = (out-Node second).item; fields = c.add_fields.new.fields } in
    IfOk-weaker c.add_fields.result
    (λ _. fields_counted c.add_fields.new.fields.items ≡ fields_with k (fields_counted c.as_slice.result.now) (fields_counted (out-Node second).fields.items))
    (λ _. place_counted made ≡ with_times k (place_counted one) (place_counted p))
    (λ _ is.
    parts_with k one p made
    (rw (out-roll-Node, out-roll-Node, out-roll-Node) c.add_counts.ensures)
    (rw (out-roll-Node, out-roll-Node, c.in_ok-add_items.ensures, out-roll-Node) refl)
    (rw (out-roll-Node, is, out-roll-Node, out-roll-Node, c.as_slice.ensures.value) refl))
    c.add_fields.ensures
