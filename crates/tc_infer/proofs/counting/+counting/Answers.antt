use Rattle.std.proofs.Common.{◌≡◌, ◌+◌, Some, length, map, drop, set, refl, sym, ap, ◌∙◌, subst, arith, rules}
use Rattle.std.proofs.lemmas.Option.{same_Some}
use Rattle.std.proofs.lemmas.Result.{IfOk-weaker}
use Rattle.tc_model.specs.Tree.{array, object, item, no_items, member, no_members, items_of, members_of}
use Rattle.tc_model.specs.Dictionary.{number_of, number}
use Rattle.tc_schema_model.specs.Counted.{held, field_at, IsCanonical, IsBelowCanonical, AreFieldsCanonical}
use Rattle.tc_schema_model.specs.Added.{added, items_added, members_added, put_field, IsNamed, AreItemsNamed, AreMembersNamed, member_added}
use Rattle.tc_schema_model.proofs.AddedLaws.{canonical-items_added, canonical-members_added, field_canonical}
use Rattle.tc_schema_model.proofs.FieldLaws.{fields_ordered}
use Rattle.tc_model.proofs.NameNumbers.{numbered}
use Rattle.tc_value.specs.ShapeMeaning.{shape_tree, shape_member}
use Rattle.tc_model.specs.TreeSize.{tree_size}
use Rattle.tc_schema.specs.Places.{place_counted, below_counted, fields_counted}
use Rattle.tc_schema.specs.declared.place.Field.TheViews.{out-Node, roll-Node, out-roll-Node, out-Field, roll-Field}
use Rattle.tc_schema.proofs.PlaceViews.{place_parts}
use Rattle.tc_schema.proofs.FieldViews.{counted_at}
use Rattle.tc_schema_model.specs.Room.{DoesFit, DoFieldsFit}
use Rattle.tc_schema_model.proofs.RoomLaws.{item_fits, member_fits}
use Rattle.tc_infer.proofs.PlaceRoom.{room_here, items_fit, members_fit}
use Rattle.tc_schema.proofs.FieldWrites.{number_at, written_field}
use Rattle.tc_value.proofs.ShapeWalks.{items_from, members_from, item_size, member_size}
use Rattle.tc_infer.proofs.counting.+counting.Goals as goal

-- ---- the place itself

pub count_shape-raise-requires : goal.count_shape-raise-requires
count_shape-raise-requires t c = room_here c.args.names.now (shape_tree c.args.shape.now) c.args.place.now c.requires.fits

pub count_shape-raise-requires-in-Bool : goal.count_shape-raise-requires-in-Bool
count_shape-raise-requires-in-Bool t c = room_here c.args.names.now (shape_tree c.args.shape.now) c.args.place.now c.requires.fits

pub count_shape-raise-requires-in-Int : goal.count_shape-raise-requires-in-Int
count_shape-raise-requires-in-Int t c = room_here c.args.names.now (shape_tree c.args.shape.now) c.args.place.now c.requires.fits

pub count_shape-raise-requires-in-Text : goal.count_shape-raise-requires-in-Text
count_shape-raise-requires-in-Text t c = room_here c.args.names.now (shape_tree c.args.shape.now) c.args.place.now c.requires.fits

pub count_shape-raise-requires-in-Array : goal.count_shape-raise-requires-in-Array
count_shape-raise-requires-in-Array t c = room_here c.args.names.now (shape_tree c.args.shape.now) c.args.place.now c.requires.fits

pub count_shape-raise-requires-in-Object : goal.count_shape-raise-requires-in-Object
count_shape-raise-requires-in-Object t c = room_here c.args.names.now (shape_tree c.args.shape.now) c.args.place.now c.requires.fits

pub count_shape-count_items-requires : goal.count_shape-count_items-requires
count_shape-count_items-requires t c =
    let names = c.args.names.now in
    let p = c.args.place.now in
    let xs = items_of (map shape_tree c.as_slice.result.now) in
    let whole : shape_tree c.args.shape.now ≡ array xs = ap shape_tree c.in-Array.is ∙ ap (λ xs. array (items_of xs)) (sym c.as_slice.ensures) in
    let size = ap tree_size whole in
    let fits = subst (λ s. DoesFit names (added names s (place_counted p))) whole c.requires.fits in
    let canonical = subst (IsCanonical (length names)) (place_parts p) c.requires.canonical in
    (omega (arith, c.decreases, size), (subst (IsNamed names) whole c.requires.named, (rw (out-roll-Node) canonical.2, rw (out-roll-Node) (items_fit names xs p fits))))

pub count_shape-count_members-requires : goal.count_shape-count_members-requires
count_shape-count_members-requires t c =
    let names = c.args.names.now in
    let p = c.args.place.now in
    let ms = members_of (map shape_member c.as_slice-in-Object.result.now) in
    let whole : shape_tree c.args.shape.now ≡ object ms = ap shape_tree c.in-Object.is ∙ ap (λ ms. object (members_of ms)) (sym c.as_slice-in-Object.ensures.members) in
    let size = ap tree_size whole in
    let fits = subst (λ s. DoesFit names (added names s (place_counted p))) whole c.requires.fits in
    let canonical = subst (IsCanonical (length names)) (place_parts p) c.requires.canonical in
    (omega (arith, c.decreases, size), (subst (IsNamed names) whole c.requires.named, (rw (out-roll-Node) canonical.3, rw (out-roll-Node) (members_fit names ms p fits))))

pub count_shape-returns-in-Object : goal.count_shape-returns-in-Object
count_shape-returns-in-Object t c =
    let names = c.args.names.now in
    let p = c.args.place.now in
    let ms = members_of (map shape_member c.as_slice-in-Object.result.now) in
    let whole : shape_tree c.args.shape.now ≡ object ms = ap shape_tree c.in-Object.is ∙ ap (λ ms. object (members_of ms)) (sym c.as_slice-in-Object.ensures.members) in
    let half = roll-Node record { counts = c.raise-in-Object.new.self; item = (out-Node p).item; fields = (out-Node p).fields } in
    let made = roll-Node record { counts = (out-Node half).counts; item = (out-Node half).item; fields = c.count_members.new.fields } in
    IfOk-weaker c.count_members.result
    (λ _. fields_counted c.count_members.new.fields.items ≡ members_added names ms (fields_counted (out-Node half).fields.items))
    (λ _. place_counted made ≡ added names (shape_tree c.args.shape.now) (place_counted p))
    (λ _ is. place_parts made ∙ rw (whole, place_parts p, out-roll-Node, out-roll-Node, is, out-roll-Node, c.raise-in-Object.ensures) refl)
    c.count_members.ensures

-- ---- items

pub count_items-count_item-requires : goal.count_items-count_item-requires
count_items-count_item-requires t c =
    let l = c.loop-item in
    let x = c.item-item.result in
    let names = c.args.names.now in
    let below = below_counted l.below in
    let rest = items_of (map shape_tree (drop (l.item-index + 1) c.args.items.now)) in
    let here = items_from c.args.items.now l.item-index x c.loop-item-test.true c.item-item.is in
    let size = item_size c.args.items.now l.item-index x c.loop-item-test.true c.item-item.is in
    let named = subst (AreItemsNamed names) here l.invariant.named in
    let whole = ap (λ xs. items_added names xs below) (sym here) ∙ l.invariant.left in
    let fits = subst (λ b. DoesFit names (held b)) (sym whole) c.requires.fits in
    (omega (arith, c.decreases, size), (named.0, (l.invariant.canonical, item_fits names (shape_tree x) rest below named.1 fits)))

pub count_items-loop-item-preserved : goal.count_items-loop-item-preserved
count_items-loop-item-preserved t c =
    let l = c.loop-item in
    let x = c.item-item.result in
    let names = c.args.names.now in
    let below = below_counted l.below in
    let rest = items_of (map shape_tree (drop (l.item-index + 1) c.args.items.now)) in
    let here = items_from c.args.items.now l.item-index x c.loop-item-test.true c.item-item.is in
    let named = subst (AreItemsNamed names) here l.invariant.named in
    let whole = ap (λ xs. items_added names xs below) (sym here) ∙ l.invariant.left in
    record {
      left = ap (items_added names rest) c.in_ok-count_item.ensures ∙ whole;
      named = named.1;
      canonical = subst (IsBelowCanonical (length names)) (sym c.in_ok-count_item.ensures) (canonical-items_added names (item (shape_tree x) no_items) below (named.0, tt) l.invariant.canonical);
    }

-- ---- members

pub count_member-unwrap-number-requires : goal.count_member-unwrap-number-requires
count_member-unwrap-number-requires t c =
    let names = c.args.names.now in
    let name = c.args.member.now.name in
    let stands : c.id_of.result ≡ Some (number names name) = c.id_of.ensures.number ∙ ap (number_of names) c.as_str.ensures.bytes ∙ numbered names name c.requires.known in
    rw stands (search rules)

pub count_member-place_of-requires : goal.count_member-place_of-requires
count_member-place_of-requires t c = record { ordered = fields_ordered (length c.args.names.now) 0 (fields_counted c.args.fields.now.items) c.requires.canonical }

pub count_member-count_shape-requires : goal.count_member-count_shape-requires
count_member-count_shape-requires t c =
    let names = c.args.names.now in
    let name = c.args.member.now.name in
    let s = shape_tree c.args.member.now.value in
    let fields = fields_counted c.args.fields.now.items in
    let here = c.index_mut.result.now in
    let number_is : c.unwrap-number.result ≡ number names name = same_Some _ _ (sym c.unwrap-number.ensures ∙ c.id_of.ensures.number ∙ ap (number_of names) c.as_str.ensures.bytes ∙ numbered names name c.requires.known) in
    let stands = counted_at c.place_of.new.fields.items c.in_ok-at.at here c.unwrap-number.result (field_at c.unwrap-number.result fields) c.in_ok-at.ensures.here in
    let counted : place_counted c.deref_mut.result.now ≡ field_at (number names name) fields =
    ap place_counted c.deref_mut.ensures.value ∙ ap (λ f. place_counted (out-Field f).node.value) c.index_mut.ensures.value ∙ stands ∙ ap (λ n. field_at n fields) number_is in (
      omega (arith, c.decreases),
      (
        c.requires.named,
        (
          subst (IsCanonical (length names)) (sym counted) (field_canonical (length names) 0 (number names name) fields c.requires.canonical),
          subst (λ d. DoesFit names (added names s d)) (sym counted) c.requires.fits,
        ),
      ),
    )

pub count_member-returns : goal.count_member-returns
count_member-returns t c =
    let names = c.args.names.now in
    let name = c.args.member.now.name in
    let s = shape_tree c.args.member.now.value in
    let n = c.unwrap-number.result in
    let all = c.place_of.new.fields.items in
    let fields = fields_counted c.args.fields.now.items in
    let here = c.index_mut.result.now in
    let d = added names s (field_at (number names name) fields) in
    let number_is : n ≡ number names name = same_Some _ _ (sym c.unwrap-number.ensures ∙ c.id_of.ensures.number ∙ ap (number_of names) c.as_str.ensures.bytes ∙ numbered names name c.requires.known) in
    let stands = counted_at all c.in_ok-at.at here n (field_at n fields) c.in_ok-at.ensures.here in
    let counted : place_counted c.deref_mut.result.now ≡ field_at (number names name) fields =
    ap place_counted c.deref_mut.ensures.value ∙ ap (λ f. place_counted (out-Field f).node.value) c.index_mut.ensures.value ∙ stands ∙ ap (λ n. field_at n fields) number_is in
    let own : (out-Field here).number ≡ n = ap (λ f. (out-Field f).number) c.index_mut.ensures.value ∙ number_at all c.in_ok-at.at here n (field_at n fields) c.in_ok-at.ensures.here in
    IfOk-weaker c.count_shape.result
    (λ _. place_counted c.count_shape.new.place ≡ added names s (place_counted c.deref_mut.result.now))
    (λ _. fields_counted (set all c.in_ok-at.at (roll-Field record { number = (out-Field here).number; node = record (out-Field here).node { value = c.count_shape.new.place } })) ≡ member_added names (shape_member c.args.member.now) fields)
    (λ _ is.
    written_field all c.in_ok-at.at n (out-Field here).number _ d own (is ∙ ap (added names s) counted)
    ∙ c.in_ok-at.ensures.written d ∙ ap (λ k. put_field k d fields) number_is)
    c.count_shape.ensures

pub count_members-count_member-requires : goal.count_members-count_member-requires
count_members-count_member-requires t c =
    let l = c.loop-member in
    let m = c.member-item.result in
    let names = c.args.names.now in
    let fields = fields_counted l.fields.items in
    let rest = members_of (map shape_member (drop (l.member-index + 1) c.args.members.now)) in
    let here = members_from c.args.members.now l.member-index m c.loop-member-test.true c.member-item.is in
    let size = member_size c.args.members.now l.member-index m c.loop-member-test.true c.member-item.is in
    let named = subst (AreMembersNamed names) here l.invariant.named in
    let whole = ap (λ ms. members_added names ms fields) (sym here) ∙ l.invariant.left in
    let fits = subst (DoFieldsFit names) (sym whole) c.requires.fits in
    (omega (arith, c.decreases, size), (named.0, (named.1, (l.invariant.canonical, member_fits names m.name (shape_tree m.value) rest fields named fits))))

pub count_members-loop-member-preserved : goal.count_members-loop-member-preserved
count_members-loop-member-preserved t c =
    let l = c.loop-member in
    let m = c.member-item.result in
    let names = c.args.names.now in
    let fields = fields_counted l.fields.items in
    let rest = members_of (map shape_member (drop (l.member-index + 1) c.args.members.now)) in
    let here = members_from c.args.members.now l.member-index m c.loop-member-test.true c.member-item.is in
    let named = subst (AreMembersNamed names) here l.invariant.named in
    let whole = ap (λ ms. members_added names ms fields) (sym here) ∙ l.invariant.left in
    record {
      left = ap (members_added names rest) c.in_ok-count_member.ensures ∙ whole;
      named = named.2;
      canonical = subst (AreFieldsCanonical (length names) 0) (sym c.in_ok-count_member.ensures) (canonical-members_added names (member m.name (shape_tree m.value) no_members) fields (named.0, named.1, tt) l.invariant.canonical);
    }
