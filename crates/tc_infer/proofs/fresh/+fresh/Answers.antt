use Rattle.std.proofs.Common.{◌≡◌, ◌+◌, ◌<◌, ◌^◌, ◌++◌, length, map, drop, sym, ap, ◌∙◌, subst, arith, length-append}
use Rattle.std.specs.List.{AllByRecursion}
use Rattle.tc_model.specs.Tree.{array, object, items_of, members_of}
use Rattle.tc_model.specs.Document.{Name}
use Rattle.tc_model.specs.Dictionary.{learned, all_learned}
use Rattle.tc_value.specs.ShapeMeaning.{shape_tree, shape_member}
use Rattle.tc_model.specs.TreeSize.{tree_size}
use Rattle.tc_model.specs.ShapeNames.{names_within, names_of_items, names_of_members}
use Rattle.tc_model.proofs.LearnedNames.{all_learned-append, all_of_first, all_of_rest}
use Rattle.tc_value.proofs.ShapeWalks.{items_from, members_from, item_size, member_size}
use Rattle.tc_model.proofs.FreshNames.{grown, one_grown}
use Rattle.tc_infer.proofs.fresh.+fresh.Goals as goal

abbrev IsShort : Name → Type 0
IsShort name = length name < 2 ^ 32

pub learn_fresh-learn_fresh_of_items-requires : goal.learn_fresh-learn_fresh_of_items-requires
learn_fresh-learn_fresh_of_items-requires t c =
    let whole : shape_tree c.args.shape.now ≡ array (items_of (map shape_tree c.as_slice.result.now)) = ap shape_tree c.in-Array.is ∙ ap (λ xs. array (items_of xs)) (sym c.as_slice.ensures) in
    let size = ap tree_size whole in (
      omega (arith, c.decreases, size),
      (
        subst (λ s. length c.args.fresh.now + length (names_within s) < 2 ^ 32) whole c.requires.room,
        subst (λ s. AllByRecursion IsShort (names_within s)) whole c.requires.short,
      ),
    )

pub learn_fresh-learn_fresh_of_members-requires : goal.learn_fresh-learn_fresh_of_members-requires
learn_fresh-learn_fresh_of_members-requires t c =
    let whole : shape_tree c.args.shape.now ≡ object (members_of (map shape_member c.as_slice-in-Object.result.now)) = ap shape_tree c.in-Object.is ∙ ap (λ ms. object (members_of ms)) (sym c.as_slice-in-Object.ensures.members) in
    let size = ap tree_size whole in (
      omega (arith, c.decreases, size),
      (
        subst (λ s. length c.args.fresh.now + length (names_within s) < 2 ^ 32) whole c.requires.room,
        subst (λ s. AllByRecursion IsShort (names_within s)) whole c.requires.short,
      ),
    )

pub learn_fresh_of_items-learn_fresh-requires : goal.learn_fresh_of_items-learn_fresh-requires
learn_fresh_of_items-learn_fresh-requires t c =
    let l = c.loop-item in
    let x = c.item-item.result in
    let rest = names_of_items (items_of (map shape_tree (drop (l.item-index + 1) c.args.items.now))) in
    let here = ap names_of_items (items_from c.args.items.now l.item-index x c.loop-item-test.true c.item-item.is) in
    let size = item_size c.args.items.now l.item-index x c.loop-item-test.true c.item-item.is in (
      omega (arith, c.decreases, size),
      (
        omega (arith, l.invariant.room, ap length here, length-append (names_within (shape_tree x)) rest),
        all_of_first IsShort (names_within (shape_tree x)) rest (subst (AllByRecursion IsShort) here l.invariant.short),
      ),
    )

pub learn_fresh_of_items-loop-item-preserved : goal.learn_fresh_of_items-loop-item-preserved
learn_fresh_of_items-loop-item-preserved t c =
    let l = c.loop-item in
    let x = c.item-item.result in
    let known = c.args.known.now in
    let first = names_within (shape_tree x) in
    let rest = names_of_items (items_of (map shape_tree (drop (l.item-index + 1) c.args.items.now))) in
    let here = ap names_of_items (items_from c.args.items.now l.item-index x c.loop-item-test.true c.item-item.is) in
    let more : known ++ c.learn_fresh.new.fresh ≡ all_learned (known ++ l.fresh) first = c.in_ok-learn_fresh.ensures in
    record {
      left = ap (λ names. all_learned names rest) more ∙ sym (all_learned-append (known ++ l.fresh) first rest) ∙ ap (all_learned (known ++ l.fresh)) (sym here) ∙ l.invariant.left;
      room = omega (arith, l.invariant.room, ap length here, length-append first rest, grown known l.fresh c.learn_fresh.new.fresh first more);
      short = all_of_rest IsShort first rest (subst (AllByRecursion IsShort) here l.invariant.short);
    }

pub learn_fresh_of_members-learn_unless_known-requires-clause-room : goal.learn_fresh_of_members-learn_unless_known-requires-clause-room
learn_fresh_of_members-learn_unless_known-requires-clause-room t c =
    let l = c.loop-member in
    let here = ap names_of_members (members_from c.args.members.now l.member-index c.member-item.result c.loop-member-test.true c.member-item.is) in
    omega (arith, l.invariant.room, ap length here)

pub learn_fresh_of_members-learn_unless_known-requires-clause-short : goal.learn_fresh_of_members-learn_unless_known-requires-clause-short
learn_fresh_of_members-learn_unless_known-requires-clause-short t c =
    let l = c.loop-member in
    let here = ap names_of_members (members_from c.args.members.now l.member-index c.member-item.result c.loop-member-test.true c.member-item.is) in
    subst IsShort (sym c.as_str.ensures.bytes) (subst (AllByRecursion IsShort) here l.invariant.short).0

pub learn_fresh_of_members-learn_fresh-requires : goal.learn_fresh_of_members-learn_fresh-requires
learn_fresh_of_members-learn_fresh-requires t c =
    let l = c.loop-member in
    let m = c.member-item.result in
    let known = c.args.known.now in
    let first = names_within (shape_tree m.value) in
    let rest = names_of_members (members_of (map shape_member (drop (l.member-index + 1) c.args.members.now))) in
    let here = ap names_of_members (members_from c.args.members.now l.member-index m c.loop-member-test.true c.member-item.is) in
    let size = member_size c.args.members.now l.member-index m c.loop-member-test.true c.member-item.is in
    let one : known ++ c.learn_unless_known.new.fresh ≡ learned (known ++ l.fresh) m.name = c.in_ok-learn_unless_known.ensures ∙ ap (learned (known ++ l.fresh)) c.as_str.ensures.bytes in (
      omega (arith, c.decreases, size),
      (
        omega (arith, l.invariant.room, ap length here, length-append first rest, one_grown known l.fresh c.learn_unless_known.new.fresh m.name one),
        all_of_first IsShort first rest (subst (AllByRecursion IsShort) here l.invariant.short).1,
      ),
    )

pub learn_fresh_of_members-loop-member-preserved : goal.learn_fresh_of_members-loop-member-preserved
learn_fresh_of_members-loop-member-preserved t c =
    let l = c.loop-member in
    let m = c.member-item.result in
    let known = c.args.known.now in
    let first = names_within (shape_tree m.value) in
    let rest = names_of_members (members_of (map shape_member (drop (l.member-index + 1) c.args.members.now))) in
    let here = ap names_of_members (members_from c.args.members.now l.member-index m c.loop-member-test.true c.member-item.is) in
    let one : known ++ c.learn_unless_known.new.fresh ≡ learned (known ++ l.fresh) m.name = c.in_ok-learn_unless_known.ensures ∙ ap (learned (known ++ l.fresh)) c.as_str.ensures.bytes in
    let more : known ++ c.learn_fresh.new.fresh ≡ all_learned (known ++ c.learn_unless_known.new.fresh) first = c.in_ok-learn_fresh.ensures in
    record {
      left = ap (λ names. all_learned names rest) (more ∙ ap (λ names. all_learned names first) one) ∙ sym (all_learned-append (learned (known ++ l.fresh) m.name) first rest) ∙ ap (all_learned (known ++ l.fresh)) (sym here) ∙ l.invariant.left;
      room =
          omega (
            arith,
            l.invariant.room,
            ap length here,
            length-append first rest,
            one_grown known l.fresh c.learn_unless_known.new.fresh m.name one,
            grown known c.learn_unless_known.new.fresh c.learn_fresh.new.fresh first more,
          );
      short = all_of_rest IsShort first rest (subst (AllByRecursion IsShort) here l.invariant.short).1;
    }
