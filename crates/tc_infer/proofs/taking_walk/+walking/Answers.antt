use Rattle.std.proofs.Common.{◌≡◌, ◌&&◌, ◌==◌, is_some, true, false, nat_lt, length, refl, sym, ap, ◌∙◌, subst, arith}
use Rattle.std.proofs.lemmas.Bool.{and_parts, and_from, and_right, OnTrue_from}
use Rattle.tc_model.specs.Tree.{object, item, no_items, member, no_members}
use Rattle.tc_model.specs.Dictionary.{number_of, number}
use Rattle.tc_record.specs.WalkView.{key_of}
use Rattle.tc_schema_model.specs.Counted.{counter, held, field_at, IsCanonical, IsBelowCanonical, AreFieldsCanonical, AreFieldsOrdered, total}
use Rattle.tc_schema_model.specs.Added.{lowered, removed, items_removed, members_removed, kept_item, kept_field}
use Rattle.tc_schema_model.specs.Fits.{is_fit, are_items_fit, are_members_fit}
use Rattle.tc_schema_model.proofs.AddedLaws.{field_canonical}
use Rattle.tc_schema_model.proofs.FieldLaws.{fields_ordered}
use Rattle.tc_schema_model.proofs.FitTests.{fits_tested}
use Rattle.tc_schema_model.proofs.RemovedLaws.{canonical-items_removed, canonical-members_removed}
use Rattle.tc_value.specs.Kinds.{kind_meant}
use Rattle.tc_schema.specs.Places.{place_counted, below_counted, fields_counted}
use Rattle.tc_schema.specs.declared.place.Field.TheViews.{out-Node, roll-Node, out-roll-Node}
use Rattle.tc_schema.proofs.PlaceViews.{place_parts}
use Rattle.tc_infer.specs.Levels.{begun, behind, innermost, outside, without_names, levels_under, name_under}
use Rattle.tc_infer.proofs.LevelSteps.{one_less, value_under}
use Rattle.tc_model.specs.Kinds.{objects}
use Rattle.tc_infer.proofs.LastObject.{last_object}
use Rattle.tc_infer.proofs.TakenFields.{found, stays, leaves}
use Rattle.tc_infer.proofs.taking_walk.+walking.Goals as goal

-- ---- items

pub take_items-take_item-requires : goal.take_items-take_item-requires
take_items-take_item-requires t c =
    let l = c.loop-token in
    let less = one_less l.cursor c.next.new.self c.in-Some.token c.in-Some.ensures.taken in
    (omega (arith, c.decreases, less, l.invariant.shorter), l.invariant.canonical)

pub take_items-loop-token-preserved : goal.take_items-loop-token-preserved
take_items-loop-token-preserved t c =
    let l = c.loop-token in
    let names = c.args.names.now in
    let below = below_counted l.below in
    let k = kind_meant c.in-Some-kind_begun.kind in
    let rest = levels_under names c.next.new.self in
    let s = begun k rest in
    let xs = without_names (innermost (behind k rest)) in
    let here = value_under l.cursor c.next.new.self c.in-Some.token c.in-Some.ensures.taken names c.kind_begun.result c.in-Some-kind_begun.kind c.kind_begun.ensures c.in-Some-kind_begun.is in
    let less = one_less l.cursor c.next.new.self c.in-Some.token c.in-Some.ensures.taken in
    let fit : is_fit names s (held below) ≡ true = let is = c.if-not-take_item.false in let told = c.take_item.ensures.fits in cc in
    let taken : below_counted c.take_item.new.below ≡ kept_item (removed names s (held below)) = c.if-not-take_item.ensures.taken in
    let after : levels_under names c.take_item.new.cursor ≡ behind k rest = c.if-not-take_item.ensures.behind in
    record {
      left = ap (λ ls. items_removed names (without_names (innermost ls)) (below_counted c.take_item.new.below)) after ∙ ap (items_removed names xs) taken ∙ ap (λ ls. items_removed names (without_names (innermost ls)) below) (sym here) ∙ l.invariant.left;
      fits =
          ap (λ ls. are_items_fit names (without_names (innermost ls)) (below_counted c.take_item.new.below)) after
          ∙ ap (are_items_fit names xs) taken
          ∙ sym (ap (λ test. test && are_items_fit names xs (kept_item (removed names s (held below)))) fit)
          ∙ ap (λ ls. are_items_fit names (without_names (innermost ls)) below) (sym here)
          ∙ l.invariant.fits;
      outer = ap outside after ∙ sym (ap outside here) ∙ l.invariant.outer;
      shorter = omega (arith, c.take_item.ensures.shorter, less, l.invariant.shorter);
      canonical = subst (IsBelowCanonical (length names)) (sym taken) (canonical-items_removed names (item s no_items) below (fits_tested names s (held below) fit, tt) l.invariant.canonical);
    }

-- ---- members

pub take_member-field_by_guess-requires : goal.take_member-field_by_guess-requires
take_member-field_by_guess-requires t c =
    let fields = fields_counted c.args.fields.now.items in
    record { ordered = subst (λ fs. AreFieldsOrdered 0 (fields_counted fs)) (sym c.deref.ensures.value) (fields_ordered (length c.args.names.now) 0 fields c.requires.canonical) }

pub take_members-take_member-requires : goal.take_members-take_member-requires
take_members-take_member-requires t c =
    let l = c.loop-token in
    let less = one_less l.cursor c.next.new.self c.in-Some.token c.in-Some.ensures.taken in
    (omega (arith, c.decreases, less, l.invariant.shorter), l.invariant.canonical)

pub take_members-loop-token-preserved : goal.take_members-loop-token-preserved
take_members-loop-token-preserved t c =
    let l = c.loop-token in
    let names = c.args.names.now in
    let fields = fields_counted l.fields.items in
    let k = kind_meant c.in-Some-kind_begun.kind in
    let rest = levels_under names c.next.new.self in
    let name = name_under names (key_of c.in-Some.token.label) in
    let n = number names name in
    let s = begun k rest in
    let ms = innermost (behind k rest) in
    let here = value_under l.cursor c.next.new.self c.in-Some.token c.in-Some.ensures.taken names c.kind_begun.result c.in-Some-kind_begun.kind c.kind_begun.ensures c.in-Some-kind_begun.is in
    let less = one_less l.cursor c.next.new.self c.in-Some.token c.in-Some.ensures.taken in
    let fit : (is_some (number_of names name) && is_fit names s (field_at n fields)) ≡ true = sym c.take_member.ensures.fits ∙ ap is_some c.in-Some-take_member.is in
    let parts = and_parts _ _ fit in
    let taken : fields_counted c.take_member.new.fields.items ≡ kept_field n (removed names s (field_at n fields)) fields = c.in-Some-take_member.ensures.taken in
    let after : levels_under names c.take_member.new.cursor ≡ behind k rest = c.in-Some-take_member.ensures.behind in
    record {
      left = ap (λ ls. members_removed names (innermost ls) (fields_counted c.take_member.new.fields.items)) after ∙ ap (members_removed names ms) taken ∙ ap (λ ls. members_removed names (innermost ls) fields) (sym here) ∙ l.invariant.left;
      fits =
          ap (λ ls. are_members_fit names (innermost ls) (fields_counted c.take_member.new.fields.items)) after
          ∙ ap (are_members_fit names ms) taken
          ∙ sym (ap (λ test. test && are_members_fit names ms (kept_field n (removed names s (field_at n fields)) fields)) fit)
          ∙ ap (λ ls. are_members_fit names (innermost ls) fields) (sym here)
          ∙ l.invariant.fits;
      outer = ap outside after ∙ sym (ap outside here) ∙ l.invariant.outer;
      shorter = omega (arith, c.take_member.ensures.shorter, less, l.invariant.shorter);
      canonical = subst (AreFieldsCanonical (length names) 0) (sym taken) (canonical-members_removed names (member name s no_members) fields (parts.0, fits_tested names s (field_at n fields) parts.1, tt) l.invariant.canonical);
    }

-- ---- the place itself

pub take_value-returns-then-of_kind-gt0-2-clause-taken : goal.take_value-returns-then-of_kind-gt0-2-clause-taken
take_value-returns-then-of_kind-gt0-2-clause-taken t c =
    let names = c.args.names.now in
    let p = c.args.place.now in
    let ms = innermost (levels_under names c.args.cursor.now) in
    let s = begun (kind_meant c.args.kind) (levels_under names c.args.cursor.now) in
    let whole : s ≡ object ms = ap (λ k. begun (kind_meant k) (levels_under names c.args.cursor.now)) c.in-Object.is in
    let half = roll-Node record { counts = c.take_one.new.counts; item = (out-Node p).item; fields = (out-Node p).fields } in
    let made = roll-Node record { counts = (out-Node half).counts; item = (out-Node half).item; fields = c.take_members.new.fields } in
    let is = c.if-not-take_members.ensures.taken in
    let after : place_counted made ≡ removed names s (place_counted p) = place_parts made ∙ rw (whole, place_parts p, out-roll-Node, out-roll-Node, is, out-roll-Node, c.if-not-take_one.ensures.taken, c.in-Object.is) refl in
    OnTrue_from _ _ (λ _. after)

pub take_value-returns-else-of_kind-gt0-2-clause-taken : goal.take_value-returns-else-of_kind-gt0-2-clause-taken
take_value-returns-else-of_kind-gt0-2-clause-taken t c =
    let names = c.args.names.now in
    let p = c.args.place.now in
    let ms = innermost (levels_under names c.args.cursor.now) in
    let s = begun (kind_meant c.args.kind) (levels_under names c.args.cursor.now) in
    let whole : s ≡ object ms = ap (λ k. begun (kind_meant k) (levels_under names c.args.cursor.now)) c.in-Object.is in
    let half = roll-Node record { counts = c.take_one.new.counts; item = (out-Node p).item; fields = (out-Node p).fields } in
    let made = roll-Node record { counts = (out-Node half).counts; item = (out-Node half).item; fields = c.take_members.new.fields } in
    let is = c.if-not-take_members.ensures.taken in
    let after : place_counted made ≡ removed names s (place_counted p) = place_parts made ∙ rw (whole, place_parts p, out-roll-Node, out-roll-Node, is, out-roll-Node, c.if-not-take_one.ensures.taken, c.in-Object.is) refl in
    OnTrue_from _ _ (λ _. after)

pub take_value-returns-else-of_kind-gt0-2-clause-fits : goal.take_value-returns-else-of_kind-gt0-2-clause-fits
take_value-returns-else-of_kind-gt0-2-clause-fits t c =
    let names = c.args.names.now in
    let p = c.args.place.now in
    let ms = innermost (levels_under names c.args.cursor.now) in
    let s = begun (kind_meant c.args.kind) (levels_under names c.args.cursor.now) in
    let whole : s ≡ object ms = ap (λ k. begun (kind_meant k) (levels_under names c.args.cursor.now)) c.in-Object.is in
    let half = roll-Node record { counts = c.take_one.new.counts; item = (out-Node p).item; fields = (out-Node p).fields } in
    let is = c.if-not-take_members.ensures.taken in
    let one : c.take_one.result ≡ nat_lt 0 (out-Node p).counts.objects = c.take_one.ensures.fits ∙ ap (λ k. nat_lt 0 (counter (out-Node p).counts (kind_meant k))) c.in-Object.is in
    let some : nat_lt 0 (out-Node p).counts.objects ≡ true = let h = c.if-not-take_one.false in cc in
    let fit : are_members_fit names ms (fields_counted (out-Node half).fields.items) ≡ true = let h = c.if-not-take_members.false in let told = c.take_members.ensures.fits in cc in
    let left : c.as_slice.result.now ≡ c.take_members.new.fields.items = rw (out-roll-Node) at c.as_slice.ensures.value in
    let lowered_is = ap (λ k. counter k objects) (c.if-not-take_one.ensures.taken ∙ ap (λ k. lowered (kind_meant k) 1 (out-Node p).counts) c.in-Object.is) in
    let now : c.of_kind-in-Object.result ≡ counter c.take_one.new.counts objects = rw (out-roll-Node, out-roll-Node) at c.of_kind-in-Object.ensures.counter in
    last_object names ms s p c.take_members.new.fields.items c.is_empty.result whole some (rw (out-roll-Node) at fit) (rw (out-roll-Node) at is)
    (omega (arith, now, lowered_is, c.if-of_kind-gt0-2.false)) (c.is_empty.ensures ∙ ap (λ fs. length fs == 0) left)

-- ---- a member

pub take_member-take_value-requires : goal.take_member-take_value-requires
take_member-take_value-requires t c =
    let names = c.args.names.now in
    let name = name_under names (key_of c.args.label) in
    let all = c.args.fields.now.items in
    let known : is_some (number_of names name) ≡ true = ap is_some (sym c.number_of_label.ensures ∙ c.in-Some.is) in
    let f = found names name name c.number_of_label.result c.in-Some.number c.in-Some-field_by_guess.at all c.deref.result.now c.index_mut.result.now known refl c.number_of_label.ensures c.in-Some.is c.deref.ensures.value c.in-Some-field_by_guess.ensures.found c.index_mut.ensures.value in
    let counted : place_counted c.deref_mut.result.now ≡ field_at (number names name) (fields_counted all) = ap place_counted c.deref_mut.ensures.value ∙ f.counted in
    (omega (arith, c.decreases), subst (IsCanonical (length names)) (sym counted) (field_canonical (length names) 0 (number names name) (fields_counted all) c.requires.canonical))

pub take_member-returns-then-not-take_value-clause-fits : goal.take_member-returns-then-not-take_value-clause-fits
take_member-returns-then-not-take_value-clause-fits t c =
    let names = c.args.names.now in
    let name = name_under names (key_of c.args.label) in
    let s = begun (kind_meant c.args.kind) (levels_under names c.args.cursor.now) in
    let all = c.args.fields.now.items in
    let here = c.index_mut.result.now in
    let known : is_some (number_of names name) ≡ true = ap is_some (sym c.number_of_label.ensures ∙ c.in-Some.is) in
    let f = found names name name c.number_of_label.result c.in-Some.number c.in-Some-field_by_guess.at all c.deref.result.now here known refl c.number_of_label.ensures c.in-Some.is c.deref.ensures.value c.in-Some-field_by_guess.ensures.found c.index_mut.ensures.value in
    let counted : place_counted c.deref_mut.result.now ≡ field_at (number names name) (fields_counted all) = ap place_counted c.deref_mut.ensures.value ∙ f.counted in
    let refused : is_fit names s (place_counted c.deref_mut.result.now) ≡ false = let is = c.if-not-take_value.true in let told = c.take_value.ensures.fits in cc in
    sym (and_right _ _ (ap (is_fit names s) (sym counted) ∙ refused))

pub take_member-returns-then-total-eq0-clause-fits : goal.take_member-returns-then-total-eq0-clause-fits
take_member-returns-then-total-eq0-clause-fits t c =
    let names = c.args.names.now in
    let name = name_under names (key_of c.args.label) in
    let s = begun (kind_meant c.args.kind) (levels_under names c.args.cursor.now) in
    let all = c.args.fields.now.items in
    let here = c.index_mut.result.now in
    let known : is_some (number_of names name) ≡ true = ap is_some (sym c.number_of_label.ensures ∙ c.in-Some.is) in
    let f = found names name name c.number_of_label.result c.in-Some.number c.in-Some-field_by_guess.at all c.deref.result.now here known refl c.number_of_label.ensures c.in-Some.is c.deref.ensures.value c.in-Some-field_by_guess.ensures.found c.index_mut.ensures.value in
    let counted : place_counted c.deref_mut.result.now ≡ field_at (number names name) (fields_counted all) = ap place_counted c.deref_mut.ensures.value ∙ f.counted in
    let fit : is_fit names s (place_counted c.deref_mut.result.now) ≡ true = let is = c.if-not-take_value.false in let told = c.take_value.ensures.fits in cc in
    sym (and_from _ _ known (ap (is_fit names s) (sym counted) ∙ fit))

pub take_member-returns-clause-fits : goal.take_member-returns-clause-fits
take_member-returns-clause-fits t c =
    let names = c.args.names.now in
    let name = name_under names (key_of c.args.label) in
    let s = begun (kind_meant c.args.kind) (levels_under names c.args.cursor.now) in
    let all = c.args.fields.now.items in
    let here = c.index_mut.result.now in
    let known : is_some (number_of names name) ≡ true = ap is_some (sym c.number_of_label.ensures ∙ c.in-Some.is) in
    let f = found names name name c.number_of_label.result c.in-Some.number c.in-Some-field_by_guess.at all c.deref.result.now here known refl c.number_of_label.ensures c.in-Some.is c.deref.ensures.value c.in-Some-field_by_guess.ensures.found c.index_mut.ensures.value in
    let counted : place_counted c.deref_mut.result.now ≡ field_at (number names name) (fields_counted all) = ap place_counted c.deref_mut.ensures.value ∙ f.counted in
    let fit : is_fit names s (place_counted c.deref_mut.result.now) ≡ true = let is = c.if-not-take_value.false in let told = c.take_value.ensures.fits in cc in
    sym (and_from _ _ known (ap (is_fit names s) (sym counted) ∙ fit))

pub take_member-returns-clause-taken : goal.take_member-returns-clause-taken
take_member-returns-clause-taken t c =
    let names = c.args.names.now in
    let name = name_under names (key_of c.args.label) in
    let s = begun (kind_meant c.args.kind) (levels_under names c.args.cursor.now) in
    let all = c.args.fields.now.items in
    let here = c.index_mut.result.now in
    let known : is_some (number_of names name) ≡ true = ap is_some (sym c.number_of_label.ensures ∙ c.in-Some.is) in
    let f = found names name name c.number_of_label.result c.in-Some.number c.in-Some-field_by_guess.at all c.deref.result.now here known refl c.number_of_label.ensures c.in-Some.is c.deref.ensures.value c.in-Some-field_by_guess.ensures.found c.index_mut.ensures.value in
    let counted : place_counted c.deref_mut.result.now ≡ field_at (number names name) (fields_counted all) = ap place_counted c.deref_mut.ensures.value ∙ f.counted in
    let n = number names name in
    stays n c.in-Some-field_by_guess.at all here c.index.result.now _ (removed names s (field_at n (fields_counted all))) f
    (c.if-not-take_value.ensures.taken ∙ ap (removed names s) counted) c.index.ensures (λ none. c.if-total-eq0.false (c.total.ensures.total ∙ ap (λ p. total (out-Node p).counts) c.deref-2.ensures ∙ none))

pub take_member-returns-then-total-eq0-clause-taken : goal.take_member-returns-then-total-eq0-clause-taken
take_member-returns-then-total-eq0-clause-taken t c =
    let names = c.args.names.now in
    let name = name_under names (key_of c.args.label) in
    let s = begun (kind_meant c.args.kind) (levels_under names c.args.cursor.now) in
    let all = c.args.fields.now.items in
    let here = c.index_mut.result.now in
    let known : is_some (number_of names name) ≡ true = ap is_some (sym c.number_of_label.ensures ∙ c.in-Some.is) in
    let f = found names name name c.number_of_label.result c.in-Some.number c.in-Some-field_by_guess.at all c.deref.result.now here known refl c.number_of_label.ensures c.in-Some.is c.deref.ensures.value c.in-Some-field_by_guess.ensures.found c.index_mut.ensures.value in
    let counted : place_counted c.deref_mut.result.now ≡ field_at (number names name) (fields_counted all) = ap place_counted c.deref_mut.ensures.value ∙ f.counted in
    let n = number names name in
    ap fields_counted c.remove.ensures.items
    ∙ leaves n c.in-Some-field_by_guess.at all here c.index.result.now _ (removed names s (field_at n (fields_counted all))) f
    (c.if-not-take_value.ensures.taken ∙ ap (removed names s) counted) c.index.ensures (sym (c.total.ensures.total ∙ ap (λ p. total (out-Node p).counts) c.deref-2.ensures) ∙ c.if-total-eq0.true)
