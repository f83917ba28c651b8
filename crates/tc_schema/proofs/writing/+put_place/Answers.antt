use Rattle.std.proofs.Common.{map, refl, arith}
use Rattle.std.proofs.lemmas.List.{drop_all}
use Rattle.std.proofs.lemmas.Result.{IfOk-equal}
use Rattle.tc_schema.proofs.WritingLaws.{place_written, objects_written, fields_fit, all_canonical}
use Rattle.tc_schema.specs.Places.{field_counted, most_names}
use Rattle.tc_schema.proofs.writing.+put_place.Goals as goal

pub put_objects-overflow_cast-fields : goal.put_objects-overflow_cast-fields
put_objects-overflow_cast-fields t c = omega (arith, fields_fit c.args.fields.now c.requires)

pub put_objects-loop-field-init : goal.put_objects-loop-field-init
put_objects-loop-field-init t c = record { left = refl; canonical = all_canonical most_names 0 (map field_counted c.args.fields.now) c.requires }

pub put_objects-returns : goal.put_objects-returns
put_objects-returns t c =
    objects_written c.args.count c.tag.result c.args.fields.now _ _ _ _ _ c.if-count-eq0.false c.tag.ensures c.in_ok-put_tagged.ensures c.in_ok-put_u32.ensures
    (drop_all _ _ c.loop-field-test.false) c.loop-field.invariant.left

pub put_place-returns : goal.put_place-returns
put_place-returns t c =
    IfOk-equal c.put_objects.result c.put_objects.new.out.items _ _ c.put_objects.ensures
    (place_written c.args.place.now _ _ _ _ _ _ _ c.in_ok-put_union.ensures c.in_ok-put_scalars.ensures c.in_ok-put_arrays.ensures c.of_kind.ensures.counter c.of_kind-2.ensures.counter c.as_slice.ensures.value)
