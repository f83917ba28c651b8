use Rattle.std.proofs.Common.{◌≡◌, ◌<◌, ◌∙◌, ℕ, List, Result, Ok, Err, is_ok, if◌then◌else◌, OnOk, false, codes, length, subst}
use Rattle.std.specs.List.{AllByRecursion}
use Rattle.std.proofs.lemmas.List.{drop_more}
use Rattle.std.proofs.lemmas.Result.{on_ok_weaker}
use Rattle.serde_json.specs.Written.{compact_text, members_text}
use Rattle.tc_schema_model.specs.SchemaTree.{item_node_of, field_nodes_of}
use Rattle.tc_schema_model.specs.SchemaText.{item_text, fields_text, array_text, object_text}
use Rattle.tc_schema.specs.Places.{below_counted, fields_counted}
use Rattle.tc_schema.proofs.FieldsByName.{field_put}
use Rattle.tc_schema.proofs.PlaceTexts.{kind_put, array_is, object_is, place_put}
use Rattle.tc_schema.proofs.text.+place_text.Goals as goal

pub put_array-returns-clause-text : goal.put_array-returns-clause-text
put_array-returns-clause-text t c =
    let items = item_text c.args.names.now (item_node_of (below_counted c.args.item.now)) in
    kind_put c.args.later c.args.count (array_text c.args.count items) _ _ _ _ _ (codes ",\"items\":") (compact_text items) (codes ",\"kind\":\"array\"}") c.if-count-eq0.false (array_is c.args.count items)
    c.in_ok-put_count.ensures c.in_ok-extend_from_slice.ensures.items c.in_ok-put_item.ensures c.in_ok-extend_from_slice-2.ensures.items

pub put_fields-loop-place-preserved : goal.put_fields-loop-place-preserved
put_fields-loop-place-preserved t c =
    let fields = c.args.fields.now in
    let places = c.as_slice-place-items.result.now in
    let i = c.loop-place.place-index in
    let inside = subst (AllByRecursion (λ place. place < length fields)) (drop_more places i 0 c.loop-place-test.true) c.loop-place.invariant.inside in
    record {
      left = field_put c.args.names.now fields places i c.loop-place.later c.index-fields-place.result c.name_of.result.now c.deref.result.now _ _ _ c.loop-place-test.true inside.0 c.index-fields-place.is
          c.name_of.ensures c.deref.ensures c.in_ok-put_name.ensures c.in_ok-put_place_text.ensures ∙ c.loop-place.invariant.left;
      inside = inside.1;
    }

pub put_object-returns : goal.put_object-returns
put_object-returns t c =
    let fields = fields_text c.args.names.now (field_nodes_of (fields_counted c.args.fields.now)) in
    on_ok_weaker c.extend_from_slice-2.result
    (λ e. kind_put c.args.later c.args.count (object_text c.args.count fields) _ _ _ _ _ (codes ",\"fields\":{") (members_text false fields) (codes ",\"kind\":\"object\"}") c.if-count-eq0.false (object_is c.args.count fields)
    c.in_ok-put_count.ensures c.in_ok-extend_from_slice.ensures.items c.in_ok-put_fields.ensures e)
    (on_ok c.extend_from_slice-2.result _ _ _ c.extend_from_slice-2.ensures.items)
  where
    on_ok : {T E : Type 0} (r : Result T E) (now put kept : List ℕ) → now ≡ (if is_ok r then put else kept) → OnOk r (now ≡ put)
    on_ok (Ok _) now put kept is = is
    on_ok (Err _) now put kept is = tt

pub put_place_text-returns : goal.put_place_text-returns
put_place_text-returns t c =
    on_ok_weaker c.put_union_end.result
    (λ e. e ∙ place_put c.args.names.now c.args.place.now _ _ _ _ _ _ _ _ _ _ c.in_ok-put_union_front.ensures c.in_ok-later.ensures.text c.in_ok-later.ensures.later
    c.in_ok-later-2.ensures.text c.in_ok-later-2.ensures.later c.in_ok-put_object.ensures c.of_kind-arrays.ensures.counter c.of_kind-objects.ensures.counter c.as_slice.ensures.value)
    c.put_union_end.ensures
