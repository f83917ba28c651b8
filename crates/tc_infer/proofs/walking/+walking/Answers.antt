use Rattle.std.proofs.Common.{◌≡◌, true, length, refl, sym, ap, ◌∙◌, subst, arith}
use Rattle.std.proofs.lemmas.Bool.{and_parts, false≢true}
use Rattle.std.proofs.lemmas.Result.{IfOk-weaker}
use Rattle.tc_model.specs.Tree.{array, object, item, no_items, member, no_members}
use Rattle.tc_model.specs.Dictionary.{number}
use Rattle.tc_record.specs.WalkView.{key_of}
use Rattle.tc_schema_model.specs.Counted.{held, field_at, IsCanonical, IsBelowCanonical, AreFieldsCanonical}
use Rattle.tc_schema_model.specs.Added.{added, items_added, members_added, IsNamed, AreItemsNamed, AreMembersNamed}
use Rattle.tc_schema_model.specs.HasCounters.{has_counters, items_have_counters, members_have_counters}
use Rattle.tc_schema_model.specs.Room.{DoesFit, DoFieldsFit}
use Rattle.tc_schema_model.proofs.AddedLaws.{canonical-items_added, canonical-members_added, field_canonical}
use Rattle.tc_schema_model.proofs.CountersThere.{items_still_there, members_still_there}
use Rattle.tc_schema_model.proofs.FieldLaws.{fields_ordered}
use Rattle.tc_schema_model.proofs.RoomLaws.{item_fits, member_fits}
use Rattle.tc_value.specs.Kinds.{kind_meant}
use Rattle.tc_schema.specs.Places.{place_counted, below_counted, fields_counted}
use Rattle.tc_schema.specs.declared.place.Field.TheViews.{out-Node, roll-Node, out-roll-Node, out-Field}
use Rattle.tc_schema.proofs.PlaceViews.{place_parts}
use Rattle.tc_schema.proofs.FieldViews.{counted_at}
use Rattle.tc_schema.proofs.FieldWrites.{number_at, written_field}
use Rattle.tc_infer.specs.Levels.{begun, behind, innermost, outside, without_names, levels_under, name_under}
use Rattle.tc_infer.proofs.LevelSteps.{one_less, value_under}
use Rattle.tc_infer.proofs.PlaceRoom.{room_here, items_fit, members_fit}
use Rattle.tc_infer.proofs.walking.+walking.Goals as goal

-- ---- the place itself

pub count_value-raise-requires : goal.count_value-raise-requires
count_value-raise-requires t c = room_here c.args.names.now (begun (kind_meant c.args.kind) (levels_under c.args.names.now c.args.cursor.now)) c.args.place.now c.requires.fits

pub count_value-count_items-requires : goal.count_value-count_items-requires
count_value-count_items-requires t c =
    let names = c.args.names.now in
    let p = c.args.place.now in
    let xs = without_names (innermost (levels_under c.args.names.now c.args.cursor.now)) in
    let whole : begun (kind_meant c.args.kind) (levels_under c.args.names.now c.args.cursor.now) ≡ array xs = ap (λ k. begun (kind_meant k) (levels_under c.args.names.now c.args.cursor.now)) c.in-Array.is in
    let fits = subst (λ s. DoesFit names (added names s (place_counted p))) whole c.requires.fits in
    let canonical = subst (IsCanonical (length names)) (place_parts p) c.requires.canonical in
    (omega (arith, c.decreases), (subst (IsNamed names) whole c.requires.named, (rw (out-roll-Node) canonical.2, rw (out-roll-Node) (items_fit names xs p fits))))

pub count_value-count_members-requires : goal.count_value-count_members-requires
count_value-count_members-requires t c =
    let names = c.args.names.now in
    let p = c.args.place.now in
    let ms = innermost (levels_under c.args.names.now c.args.cursor.now) in
    let whole : begun (kind_meant c.args.kind) (levels_under c.args.names.now c.args.cursor.now) ≡ object ms = ap (λ k. begun (kind_meant k) (levels_under c.args.names.now c.args.cursor.now)) c.in-Object.is in
    let fits = subst (λ s. DoesFit names (added names s (place_counted p))) whole c.requires.fits in
    let canonical = subst (IsCanonical (length names)) (place_parts p) c.requires.canonical in
    (omega (arith, c.decreases), (subst (IsNamed names) whole c.requires.named, (rw (out-roll-Node) canonical.3, rw (out-roll-Node) (members_fit names ms p fits))))

pub count_value-returns-in-Object-clause-counted : goal.count_value-returns-in-Object-clause-counted
count_value-returns-in-Object-clause-counted t c =
    let names = c.args.names.now in
    let p = c.args.place.now in
    let ms = innermost (levels_under c.args.names.now c.args.cursor.now) in
    let s = begun (kind_meant c.args.kind) (levels_under c.args.names.now c.args.cursor.now) in
    let whole : s ≡ object ms = ap (λ k. begun (kind_meant k) (levels_under c.args.names.now c.args.cursor.now)) c.in-Object.is in
    let half = roll-Node record { counts = c.raise.new.self; item = (out-Node p).item; fields = (out-Node p).fields } in
    let made = roll-Node record { counts = (out-Node half).counts; item = (out-Node half).item; fields = c.count_members.new.fields } in
    IfOk-weaker c.count_members.result
    (λ _. fields_counted c.count_members.new.fields.items ≡ members_added names ms (fields_counted (out-Node half).fields.items))
    (λ _. place_counted made ≡ added names s (place_counted p))
    (λ _ is. place_parts made ∙ rw (whole, place_parts p, out-roll-Node, out-roll-Node, is, out-roll-Node, c.raise.ensures, c.in-Object.is) refl)
    c.count_members.ensures.counted

-- ---- items

pub count_items-count_item-requires : goal.count_items-count_item-requires
count_items-count_item-requires t c =
    let l = c.loop-token in
    let names = c.args.names.now in
    let below = below_counted l.below in
    let k = kind_meant c.in-Some-kind_begun.kind in
    let rest = levels_under names c.next.new.self in
    let here = value_under l.cursor c.next.new.self c.in-Some.token c.in-Some.ensures.taken names c.kind_begun.result c.in-Some-kind_begun.kind c.kind_begun.ensures c.in-Some-kind_begun.is in
    let less = one_less l.cursor c.next.new.self c.in-Some.token c.in-Some.ensures.taken in
    let named = subst (λ ls. AreItemsNamed names (without_names (innermost ls))) here l.invariant.named in
    let whole = ap (λ ls. items_added names (without_names (innermost ls)) below) (sym here) ∙ l.invariant.left in
    let fits = subst (λ b. DoesFit names (held b)) (sym whole) c.requires.fits in
    (omega (arith, c.decreases, less, l.invariant.shorter), (named.0, (l.invariant.canonical, item_fits names (begun k rest) (without_names (innermost (behind k rest))) below named.1 fits)))

pub count_items-loop-token-preserved : goal.count_items-loop-token-preserved
count_items-loop-token-preserved t c =
    let l = c.loop-token in
    let names = c.args.names.now in
    let below = below_counted l.below in
    let k = kind_meant c.in-Some-kind_begun.kind in
    let rest = levels_under names c.next.new.self in
    let s = begun k rest in
    let xs = without_names (innermost (behind k rest)) in
    let here = value_under l.cursor c.next.new.self c.in-Some.token c.in-Some.ensures.taken names c.kind_begun.result c.in-Some-kind_begun.kind c.kind_begun.ensures c.in-Some-kind_begun.is in
    let less = one_less l.cursor c.next.new.self c.in-Some.token c.in-Some.ensures.taken in
    let named = subst (λ ls. AreItemsNamed names (without_names (innermost ls))) here l.invariant.named in
    let whole = ap (λ ls. items_added names (without_names (innermost ls)) below) (sym here) ∙ l.invariant.left in
    let counted = c.in_ok-count_item-in-Some-kind_begun.ensures.counted in
    let after = c.in_ok-count_item-in-Some-kind_begun.ensures.behind in
    record {
      left = ap (λ ls. items_added names (without_names (innermost ls)) (below_counted c.count_item.new.below)) after ∙ ap (items_added names xs) counted ∙ whole;
      outer = ap outside after ∙ sym (ap outside here) ∙ l.invariant.outer;
      shorter = omega (arith, c.count_item.ensures.shorter, less, l.invariant.shorter);
      named = subst (λ ls. AreItemsNamed names (without_names (innermost ls))) (sym after) named.1;
      canonical = subst (IsBelowCanonical (length names)) (sym counted) (canonical-items_added names (item s no_items) below (named.0, tt) l.invariant.canonical);
      sure = λ all.
          let there = subst (λ ls. items_have_counters names (without_names (innermost ls)) below ≡ true) here (l.invariant.sure all) in
          ap (λ ls. items_have_counters names (without_names (innermost ls)) (below_counted c.count_item.new.below)) after ∙ ap (items_have_counters names xs) counted
          ∙ items_still_there names s xs below named.0 (and_parts _ _ there).1;
    }

-- ---- members

pub count_member-place_of_label-requires : goal.count_member-place_of_label-requires
count_member-place_of_label-requires t c = record { known = c.requires.known; ordered = fields_ordered (length c.args.names.now) 0 (fields_counted c.args.fields.now.items) c.requires.canonical }

pub count_member-count_value-requires : goal.count_member-count_value-requires
count_member-count_value-requires t c =
    let names = c.args.names.now in
    let name = name_under names (key_of c.args.label) in
    let s = begun (kind_meant c.args.kind) (levels_under c.args.names.now c.args.cursor.now) in
    let fields = fields_counted c.args.fields.now.items in
    let here = c.index_mut.result.now in
    let stands = counted_at c.place_of_label.new.fields.items c.in_ok-at.at here (number names name) (field_at (number names name) fields) c.in_ok-at.ensures.here in
    let counted : place_counted c.deref_mut.result.now ≡ field_at (number names name) fields =
    ap place_counted c.deref_mut.ensures.value ∙ ap (λ f. place_counted (out-Field f).node.value) c.index_mut.ensures.value ∙ stands in (
      omega (arith, c.decreases),
      (
        c.requires.named,
        (
          subst (IsCanonical (length names)) (sym counted) (field_canonical (length names) 0 (number names name) fields c.requires.canonical),
          subst (λ d. DoesFit names (added names s d)) (sym counted) c.requires.fits,
        ),
      ),
    )

pub count_member-returns-clause-counted : goal.count_member-returns-clause-counted
count_member-returns-clause-counted t c =
    let names = c.args.names.now in
    let name = name_under names (key_of c.args.label) in
    let s = begun (kind_meant c.args.kind) (levels_under c.args.names.now c.args.cursor.now) in
    let n = number names name in
    let all = c.place_of_label.new.fields.items in
    let fields = fields_counted c.args.fields.now.items in
    let here = c.index_mut.result.now in
    let d = added names s (field_at (number names name) fields) in
    let stands = counted_at all c.in_ok-at.at here n (field_at n fields) c.in_ok-at.ensures.here in
    let counted : place_counted c.deref_mut.result.now ≡ field_at (number names name) fields =
    ap place_counted c.deref_mut.ensures.value ∙ ap (λ f. place_counted (out-Field f).node.value) c.index_mut.ensures.value ∙ stands in
    let own : (out-Field here).number ≡ n = ap (λ f. (out-Field f).number) c.index_mut.ensures.value ∙ number_at all c.in_ok-at.at here n (field_at n fields) c.in_ok-at.ensures.here in
    written_field all c.in_ok-at.at n (out-Field here).number _ d own (c.in_ok-count_value.ensures.counted ∙ ap (added names s) counted)
    ∙ c.in_ok-at.ensures.written d

pub count_member-returns-in_err-count_value-clause-sure : goal.count_member-returns-in_err-count_value-clause-sure
count_member-returns-in_err-count_value-clause-sure t c = λ there.
    let names = c.args.names.now in
    let name = name_under names (key_of c.args.label) in
    let s = begun (kind_meant c.args.kind) (levels_under c.args.names.now c.args.cursor.now) in
    let fields = fields_counted c.args.fields.now.items in
    let stands = counted_at c.place_of_label.new.fields.items c.in_ok-at.at c.index_mut.result.now (number names name) (field_at (number names name) fields) c.in_ok-at.ensures.here in
    let counted : place_counted c.deref_mut.result.now ≡ field_at (number names name) fields =
    ap place_counted c.deref_mut.ensures.value ∙ ap (λ f. place_counted (out-Field f).node.value) c.index_mut.ensures.value ∙ stands in
    absurd (false≢true (c.in_err-count_value.ensures.sure (ap (has_counters names s) counted ∙ there)))

pub count_members-count_member-requires : goal.count_members-count_member-requires
count_members-count_member-requires t c =
    let l = c.loop-token in
    let names = c.args.names.now in
    let fields = fields_counted l.fields.items in
    let k = kind_meant c.in-Some-kind_begun.kind in
    let rest = levels_under names c.next.new.self in
    let name = name_under names (key_of c.in-Some.token.label) in
    let here =
    value_under l.cursor c.next.new.self c.in-Some.token c.in-Some.ensures.taken names c.kind_begun.result c.in-Some-kind_begun.kind c.kind_begun.ensures c.in-Some-kind_begun.is in
    let less = one_less l.cursor c.next.new.self c.in-Some.token c.in-Some.ensures.taken in
    let named = subst (λ ls. AreMembersNamed names (innermost ls)) here l.invariant.named in
    let whole = ap (λ ls. members_added names (innermost ls) fields) (sym here) ∙ l.invariant.left in
    let fits = subst (DoFieldsFit names) (sym whole) c.requires.fits in
    (omega (arith, c.decreases, less, l.invariant.shorter), (named.0, (named.1, (l.invariant.canonical, member_fits names name (begun k rest) (innermost (behind k rest)) fields named fits))))

pub count_members-loop-token-preserved : goal.count_members-loop-token-preserved
count_members-loop-token-preserved t c =
    let l = c.loop-token in
    let names = c.args.names.now in
    let fields = fields_counted l.fields.items in
    let k = kind_meant c.in-Some-kind_begun.kind in
    let rest = levels_under names c.next.new.self in
    let name = name_under names (key_of c.in-Some.token.label) in
    let s = begun k rest in
    let ms = innermost (behind k rest) in
    let here =
    value_under l.cursor c.next.new.self c.in-Some.token c.in-Some.ensures.taken names c.kind_begun.result c.in-Some-kind_begun.kind c.kind_begun.ensures c.in-Some-kind_begun.is in
    let less = one_less l.cursor c.next.new.self c.in-Some.token c.in-Some.ensures.taken in
    let named = subst (λ ls. AreMembersNamed names (innermost ls)) here l.invariant.named in
    let whole = ap (λ ls. members_added names (innermost ls) fields) (sym here) ∙ l.invariant.left in
    let counted = c.in_ok-at-in-Some-kind_begun.ensures.counted in
    let after = c.in_ok-at-in-Some-kind_begun.ensures.behind in
    record {
      left = ap (λ ls. members_added names (innermost ls) (fields_counted c.count_member.new.fields.items)) after ∙ ap (members_added names ms) counted ∙ whole;
      outer = ap outside after ∙ sym (ap outside here) ∙ l.invariant.outer;
      shorter = omega (arith, c.count_member.ensures.shorter, less, l.invariant.shorter);
      named = subst (λ ls. AreMembersNamed names (innermost ls)) (sym after) named.2;
      canonical = subst (AreFieldsCanonical (length names) 0) (sym counted) (canonical-members_added names (member name s no_members) fields (named.0, named.1, tt) l.invariant.canonical);
      sure = λ all.
          let there = subst (λ ls. members_have_counters names (innermost ls) fields ≡ true) here (l.invariant.sure all) in
          ap (λ ls. members_have_counters names (innermost ls) (fields_counted c.count_member.new.fields.items)) after ∙ ap (members_have_counters names ms) counted
          ∙ members_still_there names name s ms fields named.0 named.1 (and_parts _ _ there).1;
    }
