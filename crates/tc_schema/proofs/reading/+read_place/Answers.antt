use Rattle.std.proofs.Common.{◌≡◌, ◌<◌, ◌≤◌, ◌+◌, ◌-◌, ◌∙◌, [], ◌∷◌, ◌++◌, Some, None, sym, ap, arith, inl, inr, ⊎_elim, map, option_map}
use Rattle.std.specs.Int.{w32}
use Rattle.std.proofs.lemmas.Result.{err_from_is_err_and}
use Rattle.tc_bytes.specs.Reading.{number_at}
use Rattle.tc_schema_model.specs.Counted.{Counters}
use Rattle.tc_schema.specs.declared.reading.Scalars.{Scalars}
use Rattle.tc_schema.specs.Places.{field_counted, place_counted}
use Rattle.std.proofs.lemmas.List.{map_push, take_rest}
use Rattle.tc_schema.proofs.FieldWrites.{made_field}
use Rattle.tc_schema.specs.Reading.{place_at}
use Rattle.tc_schema.proofs.ReadingSteps.{onto, place_step, no_number, number_refused, no_place, next_field, all_read, no_array, no_object, both_read}
use Rattle.tc_schema.proofs.reading.+read_place.Goals as goal

-- the scalar kinds, and no other
abbrev alone : Scalars → Counters
alone s = record { nulls = s.nulls; booleans = s.booleans; integers = s.integers; texts = s.texts; arrays = 0; objects = 0 }

pub read_fields-returns-in_err-number : goal.read_fields-returns-in_err-number
read_fields-returns-in_err-number t c =
    let gone = c.in_err-number.ensures.ok_part in
    let number : number_at w32 c.loop-done.rest.now ≡ None = sym (rw gone at c.u32_at.ensures) in
    let left : 0 < c.args.many - c.loop-done.done = let more = c.loop-done-test.true in omega arith in
    let p = err_from_is_err_and c.from_residual.result c.from_residual.ensures.1 in
    rw p.1 (λ refused. sym c.loop-done.invariant ∙ ap (option_map (onto (map field_counted c.loop-done.fields.items))) (no_number (place_at c.args.names c.args.levels) c.args.names (c.args.many - c.loop-done.done) c.loop-done.low c.loop-done.rest.now left number))

pub read_fields-returns-then-number-low : goal.read_fields-returns-then-number-low
read_fields-returns-then-number-low t c = λ refused.
    let number : number_at w32 c.loop-done.rest.now ≡ Some (c.in_ok-number.number, c.in_ok-number.after.now) = sym (rw c.in_ok-number.ensures.ok_part at c.u32_at.ensures) in
    let left : 0 < c.args.many - c.loop-done.done = let more = c.loop-done-test.true in omega arith in
    sym c.loop-done.invariant ∙ ap (option_map (onto (map field_counted c.loop-done.fields.items)))
    (number_refused (place_at c.args.names c.args.levels) c.args.names (c.args.many - c.loop-done.done) c.loop-done.low c.loop-done.rest.now c.in_ok-number.number c.in_ok-number.after.now left number
    (⊎_elim (λ less. inl less) (λ both. inr both.1) c.then-number-low.either))

pub read_fields-returns-in_err-node : goal.read_fields-returns-in_err-node
read_fields-returns-in_err-node t c =
    let number : number_at w32 c.loop-done.rest.now ≡ Some (c.in_ok-number.number, c.in_ok-number.after.now) = sym (rw c.in_ok-number.ensures.ok_part at c.u32_at.ensures) in
    let left : 0 < c.args.many - c.loop-done.done = let more = c.loop-done-test.true in omega arith in
    let least : c.loop-done.low ≤ c.in_ok-number.number = let h = c.if-number-low.false in omega arith in
    let below : c.in_ok-number.number < c.args.names = let h = c.if-number-names.false in omega arith in
    let p = err_from_is_err_and c.from_residual-in_err-node.result c.from_residual-in_err-node.ensures.1 in
    rw p.1 (λ refused. sym c.loop-done.invariant ∙ ap (option_map (onto (map field_counted c.loop-done.fields.items)))
    (no_place (place_at c.args.names c.args.levels) c.args.names (c.args.many - c.loop-done.done) c.loop-done.low c.loop-done.rest.now c.in_ok-number.number c.in_ok-number.after.now left number least below
    (c.in_err-node.ensures (sym p.2 ∙ refused))))

pub read_fields-loop-done-preserved : goal.read_fields-loop-done-preserved
read_fields-loop-done-preserved t c =
    let number : number_at w32 c.loop-done.rest.now ≡ Some (c.in_ok-number.number, c.in_ok-number.after.now) = sym (rw c.in_ok-number.ensures.ok_part at c.u32_at.ensures) in
    let left : 0 < c.args.many - c.loop-done.done = let more = c.loop-done-test.true in omega arith in
    let least : c.loop-done.low ≤ c.in_ok-number.number = let h = c.if-number-low.false in omega arith in
    let below : c.in_ok-number.number < c.args.names = let h = c.if-number-names.false in omega arith in
    let fewer : c.args.many - (c.loop-done.done + 1) ≡ c.args.many - c.loop-done.done - 1 = omega arith in
    let more : map field_counted c.push.new.self.items ≡ map field_counted c.loop-done.fields.items ++ (c.in_ok-number.number, place_counted c.in_ok-node.node) ∷ [] =
    ap (map field_counted) c.in_ok-push.ensures.items ∙ map_push field_counted c.loop-done.fields.items _ ∙ ap (λ f. map field_counted c.loop-done.fields.items ++ f ∷ []) (made_field c.in_ok-number.number _ (place_counted c.in_ok-node.node) (ap place_counted c.in_ok-new.ensures.ok)) in
    rw (more, fewer)
    (next_field (place_at c.args.names c.args.levels) c.args.names (c.args.many - c.loop-done.done) c.loop-done.low c.loop-done.rest.now c.in_ok-number.number c.in_ok-number.after.now (place_counted c.in_ok-node.node) c.in_ok-node.after.now
    (map field_counted c.loop-done.fields.items) left number least below c.in_ok-node.ensures
    ∙ c.loop-done.invariant)

pub read_fields-returns : goal.read_fields-returns
read_fields-returns t c =
    let none : c.args.many - c.loop-done.done ≡ 0 = let h = c.loop-done-test.false in omega arith in
    sym c.loop-done.invariant ∙ all_read (place_at c.args.names c.args.levels) c.args.names (c.args.many - c.loop-done.done) c.loop-done.low c.loop-done.rest.now (map field_counted c.loop-done.fields.items) none

pub read_kinds-returns-in_err-scalars : goal.read_kinds-returns-in_err-scalars
read_kinds-returns-in_err-scalars t c =
    let gone = c.in_err-scalars.ensures.ok_part in
    let p = err_from_is_err_and c.from_residual.result c.from_residual.ensures.1 in
    rw p.1 (λ refused. sym (rw gone at (c.read_scalars.ensures (place_at c.args.names c.args.levels) c.args.names)))

pub read_kinds-returns-in_err-arrays : goal.read_kinds-returns-in_err-arrays
read_kinds-returns-in_err-arrays t c =
    let kinds = rw c.in_ok-scalars.ensures.ok_part at (c.read_scalars.ensures (place_at c.args.names c.args.levels) c.args.names) in
    let p = err_from_is_err_and c.from_residual-in_err-arrays.result c.from_residual-in_err-arrays.ensures.1 in
    rw p.1 (λ refused. sym kinds ∙ no_array (place_at c.args.names c.args.levels) c.args.names c.in_ok-scalars.left (alone c.in_ok-scalars.scalars) c.in_ok-scalars.rest.now (c.in_err-arrays.ensures.gives (sym p.2 ∙ refused)))

pub read_kinds-returns-in_err-objects : goal.read_kinds-returns-in_err-objects
read_kinds-returns-in_err-objects t c =
    let kinds = rw c.in_ok-scalars.ensures.ok_part at (c.read_scalars.ensures (place_at c.args.names c.args.levels) c.args.names) in
    let p = err_from_is_err_and c.from_residual-in_err-objects.result c.from_residual-in_err-objects.ensures.1 in
    rw p.1 (λ refused. sym kinds ∙ no_object (place_at c.args.names c.args.levels) c.args.names c.in_ok-scalars.left (alone c.in_ok-scalars.scalars) c.in_ok-scalars.rest.now c.in_ok-arrays.arrays _ _ _
    (ap (λ n. c.in_ok-scalars.left - n) c.one_if_some.ensures.counted) c.in_ok-arrays.ensures.gives (c.in_err-objects.ensures.gives (sym p.2 ∙ refused)))

pub read_kinds-returns : goal.read_kinds-returns
read_kinds-returns t c =
    let kinds = rw c.in_ok-scalars.ensures.ok_part at (c.read_scalars.ensures (place_at c.args.names c.args.levels) c.args.names) in
    let both = both_read (place_at c.args.names c.args.levels) c.args.names c.in_ok-scalars.left (alone c.in_ok-scalars.scalars) c.in_ok-scalars.rest.now c.in_ok-arrays.arrays _ _ _ c.in_ok-objects.objects _ _
    (ap (λ n. c.in_ok-scalars.left - n) c.one_if_some.ensures.counted) c.in_ok-arrays.ensures.gives c.in_ok-objects.ensures.gives in
    rw (sym kinds ∙ both) c.place_of.ensures

pub read_place-returns-then-starts : goal.read_place-returns-then-starts
read_place-returns-then-starts t c =
    rw (place_step c.args.names c.args.levels c.args.bytes.now c.if-levels-eq0.false, sym c.if-starts.ensures) (rw (take_rest c.args.bytes.now 1) at c.read_union.ensures)

pub read_place-returns-else-starts : goal.read_place-returns-else-starts
read_place-returns-else-starts t c =
    rw (place_step c.args.names c.args.levels c.args.bytes.now c.if-levels-eq0.false, sym c.if-starts.ensures) c.read_kinds.ensures
