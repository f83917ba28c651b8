use Rattle.std.proofs.Common.{◌≡◌, ◌+◌, ◌&&◌, ◌==◌, is_some, true, false, nat_lt, length, map, drop, refl, sym, ap, ◌∙◌, subst, arith}
use Rattle.std.proofs.lemmas.Bool.{and_parts, and_from, and_right, OnTrue_from}
use Rattle.tc_model.specs.Tree.{object, item, no_items, member, no_members, items_of, members_of}
use Rattle.tc_model.specs.Dictionary.{number_of, number}
use Rattle.tc_schema_model.specs.Counted.{counter, held, field_at, IsCanonical, IsBelowCanonical, AreFieldsCanonical, AreFieldsOrdered, total}
use Rattle.tc_schema_model.specs.Added.{removed, items_removed, members_removed, kept_item, kept_field}
use Rattle.tc_schema_model.specs.Fits.{is_fit, are_items_fit, are_members_fit}
use Rattle.tc_schema_model.proofs.AddedLaws.{field_canonical}
use Rattle.tc_schema_model.proofs.FieldLaws.{fields_ordered}
use Rattle.tc_schema_model.proofs.FitTests.{fits_tested}
use Rattle.tc_schema_model.proofs.RemovedLaws.{canonical-items_removed, canonical-members_removed}
use Rattle.tc_value.specs.ShapeMeaning.{shape_tree, shape_member}
use Rattle.tc_schema.specs.Places.{place_counted, below_counted, fields_counted}
use Rattle.tc_schema.specs.declared.place.Field.TheViews.{out-Node, roll-Node, out-roll-Node}
use Rattle.tc_schema.proofs.PlaceViews.{place_parts}
use Rattle.tc_value.proofs.ShapeWalks.{items_from, members_from, item_size, member_size}
use Rattle.tc_model.specs.Kinds.{objects}
use Rattle.tc_infer.proofs.LastObject.{last_object}
use Rattle.tc_infer.proofs.TakenFields.{found, stays, leaves}
use Rattle.tc_infer.proofs.taking.+taking.Goals as goal

-- ---- items

pub take_items-take_item-requires : goal.take_items-take_item-requires
take_items-take_item-requires t c =
    let l = c.loop-item in
    let size = item_size c.args.items.now l.item-index c.item-item.result c.loop-item-test.true c.item-item.is in
    (omega (arith, c.decreases, size), l.invariant.canonical)

pub take_items-loop-item-preserved : goal.take_items-loop-item-preserved
take_items-loop-item-preserved t c =
    let l = c.loop-item in
    let s = shape_tree c.item-item.result in
    let names = c.args.names.now in
    let below = below_counted l.below in
    let rest = items_of (map shape_tree (drop (l.item-index + 1) c.args.items.now)) in
    let here = items_from c.args.items.now l.item-index c.item-item.result c.loop-item-test.true c.item-item.is in
    let fit : is_fit names s (held below) ≡ true = let is = c.if-not-take_item.false in let told = c.take_item.ensures.fits in cc in
    let taken : below_counted c.take_item.new.below ≡ kept_item (removed names s (held below)) = c.if-not-take_item.ensures.taken in
    record {
      left = ap (items_removed names rest) taken ∙ ap (λ xs. items_removed names xs below) (sym here) ∙ l.invariant.left;
      fits =
          ap (are_items_fit names rest) taken
          ∙ sym (ap (λ test. test && are_items_fit names rest (kept_item (removed names s (held below)))) fit)
          ∙ ap (λ xs. are_items_fit names xs below) (sym here)
          ∙ l.invariant.fits;
      canonical = subst (IsBelowCanonical (length names)) (sym taken) (canonical-items_removed names (item s no_items) below (fits_tested names s (held below) fit, tt) l.invariant.canonical);
    }

-- ---- members

pub take_member-search_fields-requires : goal.take_member-search_fields-requires
take_member-search_fields-requires t c =
    let fields = fields_counted c.args.fields.now.items in
    subst (λ fs. AreFieldsOrdered 0 (fields_counted fs)) (sym c.deref.ensures.value) (fields_ordered (length c.args.names.now) 0 fields c.requires.canonical)

pub take_member-take_shape-requires : goal.take_member-take_shape-requires
take_member-take_shape-requires t c =
    let names = c.args.names.now in
    let m = c.args.member.now in
    let s = shape_tree m.value in
    let all = c.args.fields.now.items in
    let here = c.index_mut.result.now in
    let known : is_some (number_of names m.name) ≡ true = ap is_some (sym (c.id_of.ensures.number ∙ ap (number_of names) c.as_str.ensures.bytes) ∙ c.in-Some.is) in
    let f = found names m.name c.as_str.result.now c.id_of.result c.in-Some.number c.in-Ok.at all c.deref.result.now here known c.as_str.ensures.bytes c.id_of.ensures.number c.in-Some.is c.deref.ensures.value c.in-Ok.ensures.found c.index_mut.ensures.value in
    let counted : place_counted c.deref_mut.result.now ≡ field_at (number names m.name) (fields_counted all) = ap place_counted c.deref_mut.ensures.value ∙ f.counted in
    (omega (arith, c.decreases), subst (IsCanonical (length names)) (sym counted) (field_canonical (length names) 0 (number names m.name) (fields_counted all) c.requires.canonical))

pub take_member-returns-then-not-take_shape-clause-fits : goal.take_member-returns-then-not-take_shape-clause-fits
take_member-returns-then-not-take_shape-clause-fits t c =
    let names = c.args.names.now in
    let m = c.args.member.now in
    let s = shape_tree m.value in
    let all = c.args.fields.now.items in
    let here = c.index_mut.result.now in
    let known : is_some (number_of names m.name) ≡ true = ap is_some (sym (c.id_of.ensures.number ∙ ap (number_of names) c.as_str.ensures.bytes) ∙ c.in-Some.is) in
    let f = found names m.name c.as_str.result.now c.id_of.result c.in-Some.number c.in-Ok.at all c.deref.result.now here known c.as_str.ensures.bytes c.id_of.ensures.number c.in-Some.is c.deref.ensures.value c.in-Ok.ensures.found c.index_mut.ensures.value in
    let counted : place_counted c.deref_mut.result.now ≡ field_at (number names m.name) (fields_counted all) = ap place_counted c.deref_mut.ensures.value ∙ f.counted in
    let refused : is_fit names s (place_counted c.deref_mut.result.now) ≡ false = let is = c.if-not-take_shape.true in let told = c.take_shape.ensures.fits in cc in
    sym (and_right _ _ (ap (is_fit names s) (sym counted) ∙ refused))

pub take_member-returns-then-total-eq0-clause-fits : goal.take_member-returns-then-total-eq0-clause-fits
take_member-returns-then-total-eq0-clause-fits t c =
    let names = c.args.names.now in
    let m = c.args.member.now in
    let s = shape_tree m.value in
    let all = c.args.fields.now.items in
    let here = c.index_mut.result.now in
    let known : is_some (number_of names m.name) ≡ true = ap is_some (sym (c.id_of.ensures.number ∙ ap (number_of names) c.as_str.ensures.bytes) ∙ c.in-Some.is) in
    let f = found names m.name c.as_str.result.now c.id_of.result c.in-Some.number c.in-Ok.at all c.deref.result.now here known c.as_str.ensures.bytes c.id_of.ensures.number c.in-Some.is c.deref.ensures.value c.in-Ok.ensures.found c.index_mut.ensures.value in
    let counted : place_counted c.deref_mut.result.now ≡ field_at (number names m.name) (fields_counted all) = ap place_counted c.deref_mut.ensures.value ∙ f.counted in
    let fit : is_fit names s (place_counted c.deref_mut.result.now) ≡ true = let is = c.if-not-take_shape.false in let told = c.take_shape.ensures.fits in cc in
    sym (and_from _ _ known (ap (is_fit names s) (sym counted) ∙ fit))

pub take_member-returns-else-total-eq0-clause-fits : goal.take_member-returns-else-total-eq0-clause-fits
take_member-returns-else-total-eq0-clause-fits t c =
    let names = c.args.names.now in
    let m = c.args.member.now in
    let s = shape_tree m.value in
    let all = c.args.fields.now.items in
    let here = c.index_mut.result.now in
    let known : is_some (number_of names m.name) ≡ true = ap is_some (sym (c.id_of.ensures.number ∙ ap (number_of names) c.as_str.ensures.bytes) ∙ c.in-Some.is) in
    let f = found names m.name c.as_str.result.now c.id_of.result c.in-Some.number c.in-Ok.at all c.deref.result.now here known c.as_str.ensures.bytes c.id_of.ensures.number c.in-Some.is c.deref.ensures.value c.in-Ok.ensures.found c.index_mut.ensures.value in
    let counted : place_counted c.deref_mut.result.now ≡ field_at (number names m.name) (fields_counted all) = ap place_counted c.deref_mut.ensures.value ∙ f.counted in
    let fit : is_fit names s (place_counted c.deref_mut.result.now) ≡ true = let is = c.if-not-take_shape.false in let told = c.take_shape.ensures.fits in cc in
    sym (and_from _ _ known (ap (is_fit names s) (sym counted) ∙ fit))

pub take_member-returns-else-total-eq0-clause-taken : goal.take_member-returns-else-total-eq0-clause-taken
take_member-returns-else-total-eq0-clause-taken t c =
    let names = c.args.names.now in
    let m = c.args.member.now in
    let s = shape_tree m.value in
    let all = c.args.fields.now.items in
    let here = c.index_mut.result.now in
    let known : is_some (number_of names m.name) ≡ true = ap is_some (sym (c.id_of.ensures.number ∙ ap (number_of names) c.as_str.ensures.bytes) ∙ c.in-Some.is) in
    let f = found names m.name c.as_str.result.now c.id_of.result c.in-Some.number c.in-Ok.at all c.deref.result.now here known c.as_str.ensures.bytes c.id_of.ensures.number c.in-Some.is c.deref.ensures.value c.in-Ok.ensures.found c.index_mut.ensures.value in
    let counted : place_counted c.deref_mut.result.now ≡ field_at (number names m.name) (fields_counted all) = ap place_counted c.deref_mut.ensures.value ∙ f.counted in
    let n = number names m.name in
    stays n c.in-Ok.at all here c.index.result.now _ (removed names s (field_at n (fields_counted all))) f
    (c.if-not-take_shape.ensures.taken ∙ ap (removed names s) counted) c.index.ensures (λ none. c.if-total-eq0.false (c.total.ensures.total ∙ ap (λ p. total (out-Node p).counts) c.deref-2.ensures ∙ none))

pub take_member-returns-then-total-eq0-clause-taken : goal.take_member-returns-then-total-eq0-clause-taken
take_member-returns-then-total-eq0-clause-taken t c =
    let names = c.args.names.now in
    let m = c.args.member.now in
    let s = shape_tree m.value in
    let all = c.args.fields.now.items in
    let here = c.index_mut.result.now in
    let known : is_some (number_of names m.name) ≡ true = ap is_some (sym (c.id_of.ensures.number ∙ ap (number_of names) c.as_str.ensures.bytes) ∙ c.in-Some.is) in
    let f = found names m.name c.as_str.result.now c.id_of.result c.in-Some.number c.in-Ok.at all c.deref.result.now here known c.as_str.ensures.bytes c.id_of.ensures.number c.in-Some.is c.deref.ensures.value c.in-Ok.ensures.found c.index_mut.ensures.value in
    let counted : place_counted c.deref_mut.result.now ≡ field_at (number names m.name) (fields_counted all) = ap place_counted c.deref_mut.ensures.value ∙ f.counted in
    let n = number names m.name in
    ap fields_counted c.remove.ensures.items
    ∙ leaves n c.in-Ok.at all here c.index.result.now _ (removed names s (field_at n (fields_counted all))) f
    (c.if-not-take_shape.ensures.taken ∙ ap (removed names s) counted) c.index.ensures (sym (c.total.ensures.total ∙ ap (λ p. total (out-Node p).counts) c.deref-2.ensures) ∙ c.if-total-eq0.true)

pub take_members-take_member-requires : goal.take_members-take_member-requires
take_members-take_member-requires t c =
    let l = c.loop-member in
    let size = member_size c.args.members.now l.member-index c.member-item.result c.loop-member-test.true c.member-item.is in
    (omega (arith, c.decreases, size), l.invariant.canonical)

pub take_members-loop-member-preserved : goal.take_members-loop-member-preserved
take_members-loop-member-preserved t c =
    let l = c.loop-member in
    let m = c.member-item.result in
    let s = shape_tree m.value in
    let names = c.args.names.now in
    let n = number names m.name in
    let fields = fields_counted l.fields.items in
    let rest = members_of (map shape_member (drop (l.member-index + 1) c.args.members.now)) in
    let here = members_from c.args.members.now l.member-index m c.loop-member-test.true c.member-item.is in
    let fit : (is_some (number_of names m.name) && is_fit names s (field_at n fields)) ≡ true = let is = c.if-not-take_member.false in let told = c.take_member.ensures.fits in cc in
    let parts = and_parts _ _ fit in
    let taken : fields_counted c.take_member.new.fields.items ≡ kept_field n (removed names s (field_at n fields)) fields = c.if-not-take_member.ensures.taken in
    record {
      left = ap (members_removed names rest) taken ∙ ap (λ ms. members_removed names ms fields) (sym here) ∙ l.invariant.left;
      fits =
          ap (are_members_fit names rest) taken
          ∙ sym (ap (λ test. test && are_members_fit names rest (kept_field n (removed names s (field_at n fields)) fields)) fit)
          ∙ ap (λ ms. are_members_fit names ms fields) (sym here)
          ∙ l.invariant.fits;
      canonical = subst (AreFieldsCanonical (length names) 0) (sym taken) (canonical-members_removed names (member m.name s no_members) fields (parts.0, fits_tested names s (field_at n fields) parts.1, tt) l.invariant.canonical);
    }

-- ---- the members of an object

pub take_shape-returns-then-of_kind-gt0-2-clause-taken : goal.take_shape-returns-then-of_kind-gt0-2-clause-taken
take_shape-returns-then-of_kind-gt0-2-clause-taken t c =
    let names = c.args.names.now in
    let p = c.args.place.now in
    let ms = members_of (map shape_member c.as_slice-in-Object.result.now) in
    let whole : shape_tree c.args.shape.now ≡ object ms = ap shape_tree c.in-Object.is ∙ ap (λ ms. object (members_of ms)) (sym c.as_slice-in-Object.ensures.members) in
    let half = roll-Node record { counts = c.take_one-in-Object.new.counts; item = (out-Node p).item; fields = (out-Node p).fields } in
    let made = roll-Node record { counts = (out-Node half).counts; item = (out-Node half).item; fields = c.take_members.new.fields } in
    let is = c.if-not-take_members.ensures.taken in
    let after : place_counted made ≡ removed names (shape_tree c.args.shape.now) (place_counted p) = place_parts made ∙ rw (whole, place_parts p, out-roll-Node, out-roll-Node, is, out-roll-Node, c.if-not-take_one-2.ensures.taken) refl in
    OnTrue_from _ _ (λ _. after)

pub take_shape-returns-else-of_kind-gt0-2-clause-taken : goal.take_shape-returns-else-of_kind-gt0-2-clause-taken
take_shape-returns-else-of_kind-gt0-2-clause-taken t c =
    let names = c.args.names.now in
    let p = c.args.place.now in
    let ms = members_of (map shape_member c.as_slice-in-Object.result.now) in
    let whole : shape_tree c.args.shape.now ≡ object ms = ap shape_tree c.in-Object.is ∙ ap (λ ms. object (members_of ms)) (sym c.as_slice-in-Object.ensures.members) in
    let half = roll-Node record { counts = c.take_one-in-Object.new.counts; item = (out-Node p).item; fields = (out-Node p).fields } in
    let made = roll-Node record { counts = (out-Node half).counts; item = (out-Node half).item; fields = c.take_members.new.fields } in
    let is = c.if-not-take_members.ensures.taken in
    let after : place_counted made ≡ removed names (shape_tree c.args.shape.now) (place_counted p) = place_parts made ∙ rw (whole, place_parts p, out-roll-Node, out-roll-Node, is, out-roll-Node, c.if-not-take_one-2.ensures.taken) refl in
    OnTrue_from _ _ (λ _. after)

pub take_shape-returns-else-of_kind-gt0-2-clause-fits : goal.take_shape-returns-else-of_kind-gt0-2-clause-fits
take_shape-returns-else-of_kind-gt0-2-clause-fits t c =
    let names = c.args.names.now in
    let p = c.args.place.now in
    let ms = members_of (map shape_member c.as_slice-in-Object.result.now) in
    let whole : shape_tree c.args.shape.now ≡ object ms = ap shape_tree c.in-Object.is ∙ ap (λ ms. object (members_of ms)) (sym c.as_slice-in-Object.ensures.members) in
    let half = roll-Node record { counts = c.take_one-in-Object.new.counts; item = (out-Node p).item; fields = (out-Node p).fields } in
    let made = roll-Node record { counts = (out-Node half).counts; item = (out-Node half).item; fields = c.take_members.new.fields } in
    let is = c.if-not-take_members.ensures.taken in
    let some : nat_lt 0 (out-Node p).counts.objects ≡ true = let h = c.if-not-take_one-2.false in let told = c.take_one-in-Object.ensures.fits in cc in
    let fit : are_members_fit names ms (fields_counted (out-Node half).fields.items) ≡ true = let h = c.if-not-take_members.false in let told = c.take_members.ensures.fits in cc in
    let left : c.as_slice-else-of_kind-gt0-2.result.now ≡ c.take_members.new.fields.items = rw (out-roll-Node) at c.as_slice-else-of_kind-gt0-2.ensures.value in
    let lowered_is = ap (λ k. counter k objects) c.if-not-take_one-2.ensures.taken in
    let now : c.of_kind-in-Object.result ≡ counter c.take_one-in-Object.new.counts objects = rw (out-roll-Node, out-roll-Node) at c.of_kind-in-Object.ensures.counter in
    last_object names ms (shape_tree c.args.shape.now) p c.take_members.new.fields.items c.is_empty.result whole some (rw (out-roll-Node) at fit) (rw (out-roll-Node) at is)
    (omega (arith, now, lowered_is, c.if-of_kind-gt0-2.false)) (c.is_empty.ensures ∙ ap (λ fs. length fs == 0) left)
